-- Promises, which public contracts cite: all but those named below.
-- Inside, which no public contract cites: `Facts`.
pub mod Digest
pub mod ShaVariant
pub mod Algorithm
pub mod VerdictTable
pub mod FirstVerdicts
pub mod RsaSecret
pub mod DemoScheme
pub mod ErrorText
pub mod Facts
