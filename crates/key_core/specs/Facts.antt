-- Lemmas about values. No public clause cites this folder.
pub mod Agreements
pub mod PrivateKeyValues
pub mod PrivateKeyFields
pub mod PrivateKeyInfos
pub mod CurveParameters
pub mod PrivateKeys
