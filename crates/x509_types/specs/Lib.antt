-- Promises, which public contracts cite: all but those named below; first `Certificate`,
-- `CertificateView`, `Extension`, `Attribute`.
-- Rules, which the promises rest on: `ExtensionFields`, `LentTbs`, `FirstExtension`.
-- Inside, which no public contract cites: `TbsParts`, `FoundExtensions`, `Facts`.
pub mod ExtensionView
pub mod ExtensionFields
pub mod Extension
pub mod ExtensionSpellings
pub mod Version
pub mod Validity
pub mod TbsElements
pub mod BorrowedTbs
pub mod TbsCertificate
pub mod TbsParts
pub mod CertificateElements
pub mod Certificate
pub mod BorrowedCertificate
pub mod CertificateView
pub mod AttributeKind
pub mod AttributeValues
pub mod Attribute
pub mod AttributeSpellings
pub mod CertificateFields
pub mod InnerFields
pub mod FirstExtension
pub mod FoundExtensions
pub mod FirstOfValue
pub mod ExtensionParts
pub mod Purposes
pub mod Facts
