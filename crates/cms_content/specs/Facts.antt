-- Lemmas about values. No public clause cites this folder.
pub mod DigestInfos
pub mod SpcAttributes
pub mod IndirectDatas
pub mod ContentKinds
pub mod ContentInfos
pub mod TimestampRequests
pub mod CtlKinds
pub mod HeldPurposes
pub mod CtlValues
pub mod CtlAttributes
pub mod CtlEntries
pub mod Ctls
