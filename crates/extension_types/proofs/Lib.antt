pub mod Constraints
pub mod AuthorityKeys
pub mod KeyUsages
