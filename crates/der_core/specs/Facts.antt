-- Lemmas that facts of values rest on. Nothing in this folder needs reading: no public clause cites
-- it.
pub mod Rows
pub mod Codes
pub mod TreeFalls
pub mod Fronts
pub mod InnerFault
pub mod InBounds
pub mod Owned
pub mod Borrowed
pub mod Cursor
pub mod Grammars
pub mod Equality
pub mod Lists
pub mod BorrowedOption
pub mod Fields
pub mod OctetStrings
pub mod Optional
pub mod Within
pub mod Answers
