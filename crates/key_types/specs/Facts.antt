-- Lemmas that facts of values rest on. Nothing in this folder needs reading: no public clause cites
-- it.
pub mod Algorithms
pub mod Kinds
pub mod Keys
pub mod RsaPrivateKeys
pub mod ECPrivateKeys
