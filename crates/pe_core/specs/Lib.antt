-- Promises alone: public contracts cite each of these.
pub mod Fields
pub mod Image
pub mod Bound
pub mod Layout
pub mod Entries
pub mod ErrorText
pub mod LayoutErrorText
-- Lemmas that values rest on, which need no reading.
pub mod Facts
