mod Lines
pub mod Pools
pub mod Calls
pub mod BorrowedCalls
mod TableHandleSteps
