-- In reading order: tables that a verifier stands behind, what `picky_ask` listed, what a run means by
-- the verifier, and that both runs are about the same octets.
pub mod Verified
pub mod Listing
pub mod VouchedBy
pub mod ReadSame
