pub mod Words
pub mod Call
pub mod Files
pub mod Pool
pub mod Borrowed
pub mod Handing
pub mod Handle
