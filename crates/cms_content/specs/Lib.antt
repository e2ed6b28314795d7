-- Promises, which public contracts cite: all but those named below.
-- Rules, which the promises rest on: `ContentInfoElements`, and of `Listing` `First`, `FileTime` and
-- `Attributes`.
-- Inside, which no public contract cites: `Facts`.
pub mod CtlKind
pub mod HeldPurposes
pub mod HeldPurposesElement
pub mod CtlValues
pub mod CtlAttribute
pub mod CtlEntry
pub mod Ctl
pub mod CtlElement
pub mod DigestInfo
pub mod SpcAttribute
pub mod IndirectData
pub mod ContentKind
pub mod ContentValue
pub mod ContentInfoElements
pub mod ContentInfo
pub mod BorrowedContent
pub mod ContentView
pub mod TimestampRequest
pub mod Facts
pub mod First
pub mod FileTime
pub mod Attributes
pub mod Listing
pub mod ErrorText
