-- In reading order: a question, which are asked, as a list, schemes that agree on them, tables that
-- answer them; questions that are borrowed, and those that are still to come; and of `picky_ask` the
-- words of a command line, the lines, and what is reported. The last two serve private functions: keys
-- that are borrowed, commands as they are stored.
pub mod Question
pub mod Asked
pub mod Listed
pub mod Agreement
pub mod Tables
pub mod Borrowed
pub mod Ahead
pub mod Words
pub mod Lines
pub mod Commands
pub mod BorrowedKey
pub mod OwnedCommand
