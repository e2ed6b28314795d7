-- The fields of a TBSCertificate as elements (RFC 5280 4.1).
use Rattle.std.specs.Prelude.{ℕ, List, ◌∷◌, ◌++◌, Option}
use Rattle.asn1_types.specs.Elements.{integer_of}
use Rattle.der_core.specs.DerElement.{DerElement}
use Rattle.der_core.specs.Elements.{sequence, optional_explicit, optional_leaf}

-- Any element for each field; contents octets for the serial number and the unique identifiers.
pub record TbsElements : Type 0 where
  pub version : Option DerElement
  pub serial_number : List ℕ
  pub signature : DerElement
  pub issuer : DerElement
  pub validity : DerElement
  pub subject : DerElement
  pub subject_public_key_info : DerElement
  pub issuer_unique_id : Option (List ℕ)
  pub subject_unique_id : Option (List ℕ)
  pub extensions : Option DerElement

-- the OPTIONAL fields after the key: issuerUniqueID [1] IMPLICIT UniqueIdentifier OPTIONAL,
-- subjectUniqueID [2] IMPLICIT UniqueIdentifier OPTIONAL, extensions [3] EXPLICIT Extensions
-- OPTIONAL
abbrev pub tbs_tail : TbsElements → List DerElement
tbs_tail f =
    optional_leaf 0x81 f.issuer_unique_id
    ++ (optional_leaf 0x82 f.subject_unique_id ++ optional_explicit 0xA3 f.extensions)

-- TBSCertificate ::= SEQUENCE { version [0] EXPLICIT Version DEFAULT v1, serialNumber
-- CertificateSerialNumber, signature AlgorithmIdentifier, issuer Name, validity Validity, subject
-- Name, subjectPublicKeyInfo SubjectPublicKeyInfo, and the OPTIONAL ones }
abbrev pub tbs_of : TbsElements → DerElement
tbs_of f =
    sequence (optional_explicit 0xA0 f.version
    ++ (integer_of f.serial_number ∷ f.signature ∷ f.issuer ∷ f.validity ∷ f.subject ∷
    f.subject_public_key_info ∷ tbs_tail f))
