-- Promises, which public contracts cite: all but those named below.
-- Rules, which the promises rest on: `Causes`.
-- Words of the crates above: `Lending`, `Rules`, `Steps`, `Counts`, `Counting`.
-- Inside, which no public contract cites: `Facts`.
pub mod DerElement
pub mod Encoding
pub mod TreeView
pub mod Head
pub mod Fault
pub mod Causes
pub mod Reading
pub mod ErrorText
pub mod Writing
pub mod Size
pub mod Owned
pub mod Borrowed
pub mod Cursor
pub mod Elements
pub mod Structure
pub mod Refusals
pub mod Default
pub mod Optional
pub mod Each
pub mod BorrowedOption
pub mod Lending
pub mod Equality
pub mod Rules
pub mod Steps
pub mod Counts
pub mod Counting
pub mod Facts
