-- Lemmas about values. No public clause cites this folder.
pub mod DeterminedAttributes
pub mod Requests
pub mod Csrs
