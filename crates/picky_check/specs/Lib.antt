-- Promises, which public contracts cite: all but those named below; first `Vouched`.
-- Rules, which the promises rest on: `Policies`, `Commands`, `SignatureAnswer`, `ChainAnswer`,
-- `Headline`, `ChainHeadline`.
-- Inside, which no public contract cites: `OwnedCommand`.
pub mod Words
pub mod Policies
pub mod OwnedCommand
pub mod Report
pub mod SignatureAnswer
pub mod ChainAnswer
pub mod Commands
pub mod Headline
pub mod ChainHeadline
pub mod Vouched
