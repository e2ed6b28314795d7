-- The KeyPurposeIds in the extended key usages of a certificate (RFC 5280 4.2.1.12).
use Rattle.std.specs.Prelude.{◌≡◌, ℕ, List, ◌∷◌, ◌++◌}
use Rattle.asn1_types.specs.Elements.{object_identifier_of}
use Rattle.der_core.specs.DerElement.{DerElement}
use Rattle.der_core.specs.Elements.{sequence}
use Rattle.der_core.specs.Owned.{IsKept}
use Rattle.asn1_types.specs.declared.oids.TheConstants.{CE_EXT_KEY_USAGE}
use Rattle.x509_types.specs.CertificateElements.{CertificateElements}
use Rattle.x509_types.specs.FirstExtension.{extensions_of, IsNamed, IsFirstNamed}

-- One of the elements is such.
pub record HasSome (Is : DerElement → Type 0) (elements : List DerElement) : Type 0 where
  pub before : List DerElement
  pub element : DerElement
  pub after : List DerElement
  pub are : elements ≡ before ++ element ∷ after
  pub is : Is element

-- the OBJECT IDENTIFIER of a KeyPurposeId, by its contents octets
abbrev pub IsPurpose : List ℕ → DerElement → Type 0
IsPurpose oid element = element ≡ object_identifier_of oid

-- ExtKeyUsageSyntax ::= SEQUENCE SIZE (1..MAX) OF KeyPurposeId: this is one of them
abbrev pub HoldsPurpose : List ℕ → DerElement → Type 0
HoldsPurpose oid element =
    (kids : List DerElement) × (element ≡ sequence kids) × HasSome (IsPurpose oid) kids

-- An extension is an extended key usage, and holds the encoding of the element.
abbrev pub IsUsage : DerElement → DerElement → Type 0
IsUsage extension element =
    (octets : List ℕ) × IsNamed CE_EXT_KEY_USAGE.now extension octets × IsKept octets element

-- An extension is an extended key usage with this KeyPurposeId.
abbrev pub IsUsageFor : List ℕ → DerElement → Type 0
IsUsageFor oid extension =
    (element : DerElement) × IsUsage extension element × HoldsPurpose oid element

-- some extended key usage has this KeyPurposeId
abbrev pub NamesPurpose : CertificateElements → List ℕ → Type 0
NamesPurpose f oid = HasSome (IsUsageFor oid) (extensions_of f)

-- there is an extended key usage
abbrev pub HasPurposes : CertificateElements → Type 0
HasPurposes f = (octets : List ℕ) × IsFirstNamed CE_EXT_KEY_USAGE.now (extensions_of f) octets
