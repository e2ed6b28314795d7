-- Promises, which public contracts cite: all but those named below.
-- Inside, which no public contract cites: `Facts`.
pub mod DirectoryString
pub mod OtherValue
pub mod AttributeValue
pub mod Name
pub mod GeneralName
pub mod Text
pub mod NameAttr
pub mod NameText
pub mod Facts
