-- Promises alone: public contracts cite each of these.
pub mod Kinds
pub mod WinCert
pub mod Refusal
pub mod ErrorText
