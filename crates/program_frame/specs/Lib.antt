-- Promises, which public contracts cite: all but those named below; first `Shelf`, `Sink`.
-- Rules, which the promises rest on: `Stored`, `SecondsWord`, `ListOption`.
-- For the programs: `Commands`, `Answering`, `Reports`, `Tables`, `Run`.
pub mod Shelf
pub mod Sink
pub mod Limits
pub mod ErrorText
pub mod ReadFiles
pub mod Stored
pub mod Memory
pub mod Opened
pub mod Statuses
pub mod Stops
pub mod DateWord
pub mod SecondsWord
pub mod ListOption
pub mod Options
pub mod Owned
pub mod KnownTable
pub mod Commands
pub mod Answering
pub mod Reports
pub mod Tables
pub mod Ending
pub mod Run
