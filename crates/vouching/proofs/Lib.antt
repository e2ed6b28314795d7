pub mod Backing
pub mod Trusting
pub mod Asking
pub mod Joining
