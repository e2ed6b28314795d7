-- Promises, which public contracts cite: all but those named below.
-- Rules, which the promises rest on: `Names`.
-- Inside, which no public contract cites: `Facts`.
pub mod UtcDate
pub mod DirectoryName
pub mod Names
pub mod GeneralName
pub mod GeneralNames
pub mod Facts
