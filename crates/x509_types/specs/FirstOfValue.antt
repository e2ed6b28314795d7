-- The first extension with an OID in the value of a certificate, and in its elements.
use Rattle.std.specs.Prelude.{◌≡◌, ◌≢◌, ⊤, ℕ, List, [], ◌∷◌, ◌++◌, Option, Some, None}
use Rattle.asn1_types.specs.Values.{identifier_contents}
use Rattle.x509_types.specs.ExtensionView.{IsValueIn}
use Rattle.x509_types.specs.CertificateElements.{CertificateElements}
use Rattle.x509_types.specs.FirstExtension.{extensions_of, IsFirstNamed}
use Rattle.x509_types.specs.declared.certificate.Certificate.{Certificate}
use Rattle.x509_types.specs.declared.extension.Extension.{Extension}

-- the extensions, none if the field is absent
abbrev pub extensions_in : Option (List Extension) → List Extension
extensions_in None = []
extensions_in (Some extensions) = extensions

-- none of the extensions has this OID
abbrev pub NoneHas : List ℕ → List Extension → Type 0
NoneHas oid [] = ⊤
NoneHas oid (e ∷ extensions) = (identifier_contents e.extn_id ≢ oid) × NoneHas oid extensions

-- The extension is the first with this OID, by its contents octets.
pub record IsFirstWith (oid : List ℕ) (extensions : List Extension) (e : Extension) : Type 0 where
  pub before : List Extension
  pub after : List Extension
  pub are : extensions ≡ before ++ e ∷ after
  pub first : NoneHas oid before
  pub named : identifier_contents e.extn_id ≡ oid

-- The octets hold the value of the first extension with this OID.
pub record HoldFirst (oid : List ℕ) (extensions : List Extension) (octets : List ℕ) : Type 0 where
  pub extension : Extension
  pub first : IsFirstWith oid extensions extension
  pub value : IsValueIn octets extension.extn_value

-- If the elements of a certificate have a first extension with an OID, so has its value, and
-- conversely.
pub record AreFirstOf (f : CertificateElements) (c : Certificate) (oid : List ℕ) : Type 0 where
  pub had : (octets : List ℕ) → IsFirstNamed oid (extensions_of f) octets
      → HoldFirst oid (extensions_in c.tbs_certificate.extensions) octets
  pub lies : (e : Extension) → IsFirstWith oid (extensions_in c.tbs_certificate.extensions) e
      → (octets : List ℕ) × IsFirstNamed oid (extensions_of f) octets
      × IsValueIn octets e.extn_value
