-- Promises, which public contracts cite: all but those named below.
-- Rules, which the promises rest on: `RequestElements`, `Inherited`, `BuildRefusals`.
-- Inside, which no public contract cites: `Facts`.
pub mod RequestElements
pub mod RequestInfo
pub mod CertificationRequest
pub mod OwnedRequest
pub mod CsrRefusals
pub mod SelfSigned
pub mod Generated
pub mod IssuedUnder
pub mod Inherited
pub mod MadeExtensions
pub mod BuiltCertificate
pub mod BuildRefusals
pub mod Building
pub mod TakenStep
pub mod Facts
