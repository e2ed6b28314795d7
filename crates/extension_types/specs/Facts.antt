-- Lemmas that facts of values rest on. Nothing in this folder needs reading: no public clause cites
-- it.
pub mod Constraints
pub mod Usages
pub mod Issuers
pub mod AuthorityKeys
