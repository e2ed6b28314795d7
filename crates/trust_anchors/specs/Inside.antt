-- What the search keeps.
pub mod Trails
pub mod Unsigned
