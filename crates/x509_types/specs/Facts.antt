-- Lemmas that facts of values rest on. Nothing in this folder needs reading: no public clause cites
-- it.
pub mod ExtensionViews
pub mod Extensions
pub mod DeterminedExtensions
pub mod Versions
pub mod Validities
pub mod TbsElements
pub mod TbsCertificates
pub mod Certificates
pub mod AttributeKinds
pub mod DeterminedRequests
pub mod AttributeLists
pub mod Attributes
