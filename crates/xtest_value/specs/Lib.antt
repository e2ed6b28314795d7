-- The scheme of a test: no public contract cites it.
pub mod ThreeRows
