-- The members of a bag that aren't read yet.
use Rattle.std.specs.Prelude.{◌≡◌, ◌<◌, List, [], ◌∷◌, length, Option, Some, None}
use Rattle.der_core.specs.DerElement.{DerElement}
use Rattle.der_core.specs.declared.kids.Kids.{Kids}
use Rattle.x509_types.specs.CertificateElements.{CertificateElements}
use Rattle.authenticode_core.specs.CertificateBag.{IsBag}

-- none if the field is absent
abbrev pub left_members : Option Kids → List DerElement
left_members None = []
left_members (Some kids) = kids.are.0

-- The bag of the members is the certificate, then the bag of those that are left, which are fewer.
pub record BeginsBag (members : List DerElement) (c : CertificateElements)
    (left : List DerElement) : Type 0 where
  pub fewer : length left < length members
  pub begun : (others : List CertificateElements) → IsBag left others → IsBag members (c ∷ others)
  pub only : (bag : List CertificateElements) → IsBag members bag
      → (others : List CertificateElements) × (bag ≡ c ∷ others) × IsBag left others
