pub mod AttributeTypes
pub mod Joined
pub mod Texts
pub mod TypeDescriptors
pub mod Equal
pub mod Elements
pub mod Parties
pub mod DecidedNames
