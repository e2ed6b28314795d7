-- The certificates that signed data contains (RFC 5652 5.1, 10.2.3).
use Rattle.std.specs.Prelude.{◌≡◌, ◌⊎◌, List, [], ◌∷◌}
use Rattle.der_core.specs.DerElement.{DerElement}
use Rattle.der_core.specs.Structure.{Fits}
use Rattle.x509_types.specs.CertificateElements.{CertificateElements, certificate_of, AreCertificateFields}

-- The member is the certificate with these elements, a SEQUENCE (RFC 5280 4.1).
pub record IsMember (member : DerElement) (c : CertificateElements) : Type 0 where
  pub is : member ≡ certificate_of c
  pub fits : Fits AreCertificateFields c

-- The bag has the certificates among the members, in order, and no others.
abbrev pub IsBag : List DerElement → List CertificateElements → Type 0
IsBag [] bag = bag ≡ []
IsBag (member ∷ members) bag =
    (((c : CertificateElements) → IsMember member c → ⊥) × IsBag members bag)
    ⊎ ((c : CertificateElements) × (others : List CertificateElements) × (bag ≡ c ∷ others)
    × IsMember member c × IsBag members others)
