-- In reading order: what the public calls promise, then the rules that this rests on.

-- Promises: when a signature file is accepted under a policy, and when signed data vouches for a
-- digest.
pub mod Trusted
pub mod Policy
pub mod Basic
-- The certificates of signed data, the signer's index and the issuer walk, and how the cursors go
-- over them.
pub mod CertificateBag
pub mod Indices
pub mod BagSigner
pub mod IssuerWalk
pub mod LeftMembers
pub mod BagCursor
pub mod WalkCursor
pub mod OthersCursor
-- Errors: what those of other crates become, their texts and names.
pub mod ContentRefusal
pub mod StampRefusal
pub mod ErrorText
pub mod RefusalName
-- The text of a result.
pub mod AcceptedText
-- The plain form, whose law is `plain_form_is_judged`.
pub mod PlainForm
pub mod PlainFields
pub mod Asn1
-- Rules, in the order of the check: form, digest and signature, signer, path, trust list, excuse, and
-- the CA of the signer.
pub mod FormRules
pub mod SigningRules
pub mod SignerRules
pub mod LinkedPath
pub mod TrustList
pub mod ListOctets
pub mod Excuses
pub mod ListRules
-- What the rules read.
pub mod SignedFields
pub mod Names
pub mod SameElements
pub mod AuthorityName
-- Inside: definitions for private functions alone.
pub mod Inside
