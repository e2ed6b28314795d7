-- Lemmas about values. No public clause cites this folder.
pub mod TokenStamps
