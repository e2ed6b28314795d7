-- Promises, which public contracts cite.
pub mod ErrorText
pub mod Refusals
pub mod Entries
pub mod Authorities
pub mod Granting
pub mod Issuing
pub mod Usable
-- For the program.
pub mod Words
pub mod LineKeys
pub mod LineCertificates
pub mod LineEntries
pub mod Counting
pub mod Answer
pub mod Reported
pub mod Commands
-- Rules, which the promises rest on.
pub mod Above
-- Inside, which no public contract cites.
pub mod Filling
pub mod OwnedCommand
pub mod Lines
pub mod Owned
