-- The first extension with an OID in a certificate (RFC 5280 4.2).
use Rattle.std.specs.Prelude.{◌≡◌, ⊤, ℕ, Bool, List, [], ◌∷◌, ◌++◌}
use Rattle.asn1_types.specs.Elements.{object_identifier_of}
use Rattle.der_core.specs.Optional.{members_of}
use Rattle.der_core.specs.DerElement.{DerElement}
use Rattle.der_core.specs.Owned.{IsKept}
use Rattle.x509_types.specs.ExtensionFields.{IsExtensionOf}
use Rattle.x509_types.specs.CertificateElements.{CertificateElements}

-- the extensions, in order
abbrev pub extensions_of : CertificateElements → List DerElement
extensions_of f = members_of f.tbs.extensions

-- An extension with this OID, by its contents octets, and these octets in its OCTET STRING.
abbrev pub IsNamed : List ℕ → DerElement → List ℕ → Type 0
IsNamed oid extension octets =
    (critical : Bool) × IsExtensionOf extension (object_identifier_of oid) critical octets

-- none of the elements is an extension with this OID
abbrev pub NoneIsNamed : List ℕ → List DerElement → Type 0
NoneIsNamed oid [] = ⊤
NoneIsNamed oid (element ∷ elements) =
    ((octets : List ℕ) → IsNamed oid element octets → ⊥) × NoneIsNamed oid elements

-- The first of the elements that is an extension with this OID holds these octets.
pub record IsFirstNamed (oid : List ℕ) (elements : List DerElement) (octets : List ℕ) : Type 0 where
  pub before : List DerElement
  pub extension : DerElement
  pub after : List DerElement
  pub are : elements ≡ before ++ extension ∷ after
  pub first : NoneIsNamed oid before
  pub named : IsNamed oid extension octets

-- The first extension with this OID in a certificate holds the encoding of the element, and nothing
-- more.
pub record IsFirstValue (f : CertificateElements) (oid : List ℕ)
    (element : DerElement) : Type 0 where
  pub octets : List ℕ
  pub first : IsFirstNamed oid (extensions_of f) octets
  pub holds : IsKept octets element

-- the value of the first extension with this OID says this
abbrev pub Says : {X : Type 0} → List ℕ → (DerElement → X → Type 0) → CertificateElements → X
    → Type 0
Says oid part f value = (element : DerElement) × IsFirstValue f oid element × part element value
