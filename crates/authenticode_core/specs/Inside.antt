-- Definitions for private functions alone: no public clause cites them. In the order of the check.
pub mod Form
pub mod SigningSteps
pub mod PolicySteps
pub mod Wanted
pub mod Naming
pub mod Linking
pub mod AuthoritySteps
pub mod ListContent
