-- Promises, which public contracts cite: all but those named below; first `Window`, `Link`,
-- `Chain`, then `History`, `Issued`.
-- Words of the crates above: `Distinct`.
-- Inside, which no public contract cites: `Facts`.
pub mod Keyless
pub mod OwnedCertificate
pub mod FirstValue
pub mod Distinct
pub mod SaidValues
pub mod CertType
pub mod Parent
pub mod Rules
pub mod Window
pub mod Link
pub mod Checks
pub mod Chain
pub mod History
pub mod Issued
pub mod CertRefusals
pub mod OwnedCertificates
pub mod Spellings
pub mod CsrErrorText
pub mod ErrorText
pub mod ErrorName
pub mod PlacesText
pub mod Facts
