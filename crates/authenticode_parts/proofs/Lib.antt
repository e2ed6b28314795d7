pub mod CarriedCertificates
pub mod SortedCertificates
pub mod OwnedAttributes
pub mod OwnedNames
