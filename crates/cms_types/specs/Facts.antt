-- Lemmas about values. No public clause cites this folder.
pub mod SpcStrings
pub mod SpcLinks
pub mod OpusInfos
pub mod Versions
pub mod Choices
pub mod SignerIdentifiers
pub mod Signed
pub mod SignerElements
pub mod UnsignedKinds
pub mod UnsignedAttributes
pub mod Options
pub mod SignerInfos
pub mod SignedDatas
