-- The walk from the signer's certificate to those of its issuers (RFC 5280 6.1).
use Rattle.std.specs.Prelude.{◌≡◌, ◌⊎◌, ℕ, suc, List, [], ◌∷◌}
use Rattle.der_core.specs.DerElement.{DerElement}
use Rattle.x509_types.specs.CertificateElements.{CertificateElements}
use Rattle.authenticode_core.specs.Names.{HasSubject}
use Rattle.authenticode_core.specs.Indices.{StandsAt, HasNoPlace, IsLeastPlace}

-- The walk that searches for a subject from an index on: its first is the least such index, behind
-- which it searches for the issuer there, and it ends if there is none.
abbrev pub IsWalkFrom : List CertificateElements → ℕ → DerElement → List ℕ → Type 0
IsWalkFrom bag from subject [] = HasNoPlace bag (HasSubject subject) from
IsWalkFrom bag from subject (place ∷ places) =
    (c : CertificateElements) × IsLeastPlace bag (HasSubject subject) from place c
    × IsWalkFrom bag (suc place) c.tbs.issuer places

-- the issuer walk of a certificate: it searches for the certificate's own subject first
abbrev pub IsIssuerWalk : List CertificateElements → CertificateElements → List ℕ → Type 0
IsIssuerWalk bag signer places = IsWalkFrom bag 0 signer.tbs.subject places

-- the certificate at the index has this subject
abbrev pub HasSubjectAt : List CertificateElements → DerElement → ℕ → Type 0
HasSubjectAt bag subject place =
    (c : CertificateElements) × StandsAt bag place c × HasSubject subject c

-- the indices without those of certificates with the subject
abbrev pub AreOthers : List CertificateElements → DerElement → List ℕ → List ℕ → Type 0
AreOthers bag subject [] path = path ≡ []
AreOthers bag subject (place ∷ places) path =
    (HasSubjectAt bag subject place × AreOthers bag subject places path)
    ⊎ ((HasSubjectAt bag subject place → ⊥) × (rest : List ℕ) × (path ≡ place ∷ rest)
    × AreOthers bag subject places rest)

-- The issuer path: the indices of the issuer walk without those of certificates with the signer's
-- subject.
abbrev pub IsIssuerPath : List CertificateElements → CertificateElements → List ℕ → Type 0
IsIssuerPath bag signer path =
    (places : List ℕ) × IsIssuerWalk bag signer places
    × AreOthers bag signer.tbs.subject places path
