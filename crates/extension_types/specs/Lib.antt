-- Promises, which public contracts cite: all but those named below.
-- Rules, which the promises rest on: `Boolean`.
-- Inside, which no public contract cites: `Facts`.
pub mod Boolean
pub mod BasicConstraints
pub mod KeyUsage
pub mod ExtendedKeyUsage
pub mod AuthorityIssuer
pub mod AuthorityKeyIdentifier
pub mod Facts
