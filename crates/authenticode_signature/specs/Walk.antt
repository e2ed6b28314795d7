-- The certificates of the issuer walk among stored certificates (RFC 5280 6.1).
use Rattle.std.specs.Prelude.{◌≡◌, ◌⊎◌, ℕ, List, [], ◌∷◌, Some, if◌then◌else◌, bytes_eq, slice_get}
use Rattle.der_core.specs.Encoding.{encoding}
use Rattle.x509_core.specs.OwnedCertificate.{KeptCertificate}
use Rattle.x509_types.specs.Purposes.{HasPurposes}
use Rattle.authenticode_parts.specs.Carried.{elements_of}
use Rattle.authenticode_core.specs.IssuerWalk.{IsIssuerWalk}
use Rattle.authenticode_signature.specs.declared.certificates.SignatureCertificatesIterator.{SignatureCertificatesIterator}

-- the items are the certificates at the indices, in order
abbrev pub AreAtPlaces : List KeptCertificate → List ℕ → List KeptCertificate → Type 0
AreAtPlaces certificates [] items = items ≡ []
AreAtPlaces certificates (place ∷ places) items =
    (c : KeptCertificate) × (others : List KeptCertificate) × (items ≡ c ∷ others)
    × (slice_get certificates place ≡ Some c) × AreAtPlaces certificates places others

-- The items are the certificates at the indices of the issuer walk of the signer's certificate.
pub record IsWalkOf (signer : KeptCertificate)
    (certificates items : List KeptCertificate) : Type 0 where
  pub places : List ℕ
  pub walk : IsIssuerWalk (elements_of certificates) signer.elements places
  pub stand : AreAtPlaces certificates places items

-- What a walk under way still yields: of the remaining certificates the first with the subject that
-- it looks for, given by its octets, then what a walk yields that looks for its issuer after it.
-- `IsWalkOf` specifies the walk as a whole.
abbrev pub walked : List ℕ → List KeptCertificate → List KeptCertificate
walked subject [] = []
walked subject (c ∷ certificates) =
    if bytes_eq (encoding c.elements.tbs.subject) subject
    then c ∷ walked (encoding c.elements.tbs.issuer) certificates
    else walked subject certificates

-- the remaining items
abbrev pub items_left : SignatureCertificatesIterator → List KeptCertificate
items_left walk = walked walk.subject.now walk.rest.now

-- some of the items has an extended key usage
abbrev pub SomeHasPurposes : List KeptCertificate → Type 0
SomeHasPurposes [] = ⊥
SomeHasPurposes (c ∷ items) = HasPurposes c.elements ⊎ SomeHasPurposes items
