-- Promises, which public contracts cite: all but those named below; first `Pkcs7`, `Making`, `Building`.
-- Inside, which no public contract cites: `MadeProgram`, `BuilderParts`, `Facts`.
pub mod Unread
pub mod Pkcs7
pub mod Refusals
pub mod SigningCertificate
pub mod SignedFields
pub mod Walk
pub mod CertificatesAlone
pub mod TimestampRequest
pub mod Timestamper
pub mod Stamping
pub mod RequestRefusals
pub mod TokenStamp
pub mod Making
pub mod MadeProgram
pub mod MadeFile
pub mod HistorySignature
pub mod KeptAncestors
pub mod FileRefusals
pub mod BuilderError
pub mod Building
pub mod BuilderParts
pub mod Facts
pub mod Validator
