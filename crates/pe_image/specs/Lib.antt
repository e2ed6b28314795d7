-- Promises, which public contracts cite: of the check `PeAnswer`, `ImageHash`, `RefusalName`,
-- `Refusals`; of the program `Vouched`, `Words`.
-- Rules, which the promises rest on: `ProgramPolicy`, `ListAnswer`, `Report`, `Commands`.
-- Inside, which no public contract cites: `OwnedCommand`.
pub mod PeAnswer
pub mod ImageHash
pub mod RefusalName
pub mod Refusals
pub mod Words
pub mod OwnedCommand
pub mod ProgramPolicy
pub mod ListAnswer
pub mod Report
pub mod Commands
pub mod Vouched
