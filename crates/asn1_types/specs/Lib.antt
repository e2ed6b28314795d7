-- Promises, which public contracts cite: all but those named below.
-- Rules, which the promises rest on: `Subidentifier`, `Values`.
-- Inside, which no public contract cites: `Facts`.
pub mod Contents
pub mod Integer
pub mod BitString
pub mod Ia5String
pub mod Subidentifier
pub mod ObjectIdentifier
pub mod Values
pub mod Calendar
pub mod Time
pub mod Elements
pub mod KnownIdentifiers
pub mod NamedIdentifiers
pub mod ErrorText
pub mod Facts
