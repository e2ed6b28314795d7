-- Promises, which public contracts cite: all.
pub mod WholeRow
pub mod Listed
