-- Lemmas about values. No public clause cites this folder.
pub mod CertificateParts
pub mod Certs
pub mod BorrowedKeys
