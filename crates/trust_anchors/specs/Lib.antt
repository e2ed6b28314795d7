-- Promises, which public contracts cite: all but those named below; first `AnchoredPath`,
-- `FirstPath`, and for the program `Reported`.
-- Rules, which the promises rest on: `Commands`.
-- Inside, which no public contract cites: `Inside`, `OwnedCommand`, `Reading`.
pub mod Anchors
pub mod AnchoredPath
pub mod FirstPath
pub mod Agreement
pub mod Refusals
pub mod ErrorText
pub mod PathText
pub mod Inside
pub mod Words
pub mod OwnedCommand
pub mod Commands
pub mod Reading
pub mod Reported
