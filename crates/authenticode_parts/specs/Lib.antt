-- Promises alone: public contracts cite each of these.
pub mod Carried
pub mod MadeSignature
pub mod MadeContent
pub mod SignedProgram
