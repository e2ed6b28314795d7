-- Promises, which public contracts cite: all but those named below.
-- Inside, which no public contract cites: `Facts`.
pub mod RsaPublicKey
pub mod AlgorithmIdentifier
pub mod KeyKind
pub mod SubjectKey
pub mod PublicKeyInfo
pub mod Facts
pub mod RsaPrivateKey
pub mod ECPrivateKey
