mod CommonNames
pub mod RawNames
