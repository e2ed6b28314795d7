pub mod Parameters
pub mod Keys
pub mod ECFields
mod RsaFields
