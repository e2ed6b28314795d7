-- What a certificate says in the first extension with an OID: the CA flag, the path length and key
-- identifiers (RFC 5280 4.2.1.1, 4.2.1.2, 4.2.1.9).
use Rattle.std.specs.Prelude.{◌≡◌, ℕ, Bool, List, [], ◌∷◌, ◌++◌}
use Rattle.der_core.specs.DerElement.{DerElement, Primitive}
use Rattle.der_core.specs.Elements.{sequence}
use Rattle.der_core.specs.Default.{IsBoolean, IsDefaultFalse}
use Rattle.asn1_types.specs.declared.oids.TheConstants.{CE_SUBJECT_KEY_IDENTIFIER, CE_BASIC_CONSTRAINTS, CE_AUTHORITY_KEY_IDENTIFIER}
use Rattle.extension_types.specs.BasicConstraints.{small_integer}
use Rattle.x509_types.specs.ExtensionView.{key_identifier}
use Rattle.x509_types.specs.CertificateElements.{CertificateElements}
use Rattle.x509_types.specs.FirstExtension.{Says}

-- A SEQUENCE begins with an element that encodes the value.
pub record HasFirstElement {X : Type 0} (part : DerElement → X → Type 0) (element : DerElement)
    (value : X) : Type 0 where
  pub kid : DerElement
  pub kids : List DerElement
  pub is : element ≡ sequence (kid ∷ kids)
  pub says : part kid value

-- pathLenConstraint INTEGER (0..MAX) OPTIONAL of BasicConstraints, after the flag if that is
-- present
pub record EndsWithLength (element : DerElement) (number : ℕ) : Type 0 where
  pub flag : List DerElement
  pub ca : Bool
  pub flagged : IsDefaultFalse flag ca
  pub is : element ≡ sequence (flag ++ small_integer number ∷ [])

-- keyIdentifier [0] IMPLICIT OCTET STRING OPTIONAL of AuthorityKeyIdentifier
abbrev pub IsAuthorityKeyIdentifier : DerElement → List ℕ → Type 0
IsAuthorityKeyIdentifier element key = element ≡ Primitive 0x80 key

-- SubjectKeyIdentifier ::= OCTET STRING
abbrev pub IsSubjectKeyIdentifier : DerElement → List ℕ → Type 0
IsSubjectKeyIdentifier element key = element ≡ key_identifier key

-- basic constraints have this flag, cA BOOLEAN DEFAULT FALSE, and it is present
abbrev pub HasCa : CertificateElements → Bool → Type 0
HasCa = Says CE_BASIC_CONSTRAINTS.now (HasFirstElement IsBoolean)

-- basic constraints have this path length
abbrev pub HasPathLength : CertificateElements → ℕ → Type 0
HasPathLength = Says CE_BASIC_CONSTRAINTS.now EndsWithLength

-- the subject key identifier has these octets
abbrev pub HasSubjectKey : CertificateElements → List ℕ → Type 0
HasSubjectKey = Says CE_SUBJECT_KEY_IDENTIFIER.now IsSubjectKeyIdentifier

-- the authority key identifier has this keyIdentifier
abbrev pub HasAuthorityKey : CertificateElements → List ℕ → Type 0
HasAuthorityKey = Says CE_AUTHORITY_KEY_IDENTIFIER.now (HasFirstElement IsAuthorityKeyIdentifier)
