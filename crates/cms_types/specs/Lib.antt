-- Promises, which public contracts cite: all but those named below; first `SignedData`, `SignerInfo`, `SignedView`.
-- Rules, which the promises rest on: `Pkcs7Elements`, `AttributeElement`.
-- Inside, which no public contract cites: `Optional`, `SignerSet`, `SignerParts`, `SignedDataParts`, `Facts`.
pub mod DigestAlgorithm
pub mod Units
pub mod SpcString
pub mod SpcLink
pub mod Optional
pub mod OpusInfo
pub mod CmsVersion
pub mod CertificateChoices
pub mod SignerIdentifier
pub mod SignedAttributesElement
pub mod SignerElements
pub mod SignedDataElements
pub mod Pkcs7Elements
pub mod UnsignedKind
pub mod Levels
pub mod Signers
pub mod SignerSet
pub mod Borrowed
pub mod Members
pub mod AttributeElement
pub mod UnsignedAttribute
pub mod SignerInfo
pub mod SignerParts
pub mod SignedData
pub mod SignedDataParts
pub mod Pkcs7
pub mod SignedView
pub mod SignerView
pub mod Facts
