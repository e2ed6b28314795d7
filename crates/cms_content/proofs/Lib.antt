pub mod Contents
pub mod CtlFields
pub mod CtlHeld
pub mod FirstMembers
pub mod OneListing
pub mod ListingSteps
