-- The certificates of a register's lines: the subject of each is the line's.
use Rattle.std.specs.Prelude.{◌≡◌, ℕ, ◌+◌, List, [], ◌∷◌, Some}
use Rattle.std.specs.List.{slice_get}
use Rattle.asn1_types.specs.Elements.{object_identifier_of}
use Rattle.asn1_types.specs.Integer.{IsUnsignedInteger}
use Rattle.asn1_types.specs.Values.{integer_contents}
use Rattle.asn1_types.specs.declared.oids.TheConstants.{AT_COMMON_NAME, CE_SUBJECT_KEY_IDENTIFIER}
use Rattle.der_core.specs.DerElement.{DerElement, Primitive}
use Rattle.der_core.specs.Elements.{sequence, set}
use Rattle.key_core.specs.declared.private_key.PrivateKey.{PrivateKey}
use Rattle.name_types.specs.Name.{name}
use Rattle.ca_register.specs.Lines.{Line}
use Rattle.x509_types.specs.FirstOfValue.{extensions_in}
use Rattle.x509_types.specs.declared.extension.view.ExtensionView.TheVariants as views
use Rattle.x509_core.specs.FirstValue.{HasFirst}
use Rattle.x509_core.specs.Issued.{HasCert}
use Rattle.x509_core.specs.OwnedCertificate.{KeptCertificate}
use Rattle.ca_register.specs.LineKeys.{AreLineKeys, key_id_of}

-- a name that is this common name, as a UTF8String (RFC 5280 4.1.2.4)
abbrev pub common_name : List ℕ → DerElement
common_name text =
    sequence (set
    (sequence (object_identifier_of AT_COMMON_NAME.now ∷ Primitive 0x0C text ∷ []) ∷ []) ∷ [])

-- The subject of the certificate is that of the line: its name, the public key of its key, and the
-- key identifier of this key (RFC 5280 4.2.1.2).
pub record IsForLine (line : Line) (cert : KeptCertificate) : Type 0 where
  pub named : name cert.certificate.tbs_certificate.subject ≡ common_name line.name
  pub private : PrivateKey
  pub keys : AreLineKeys line.key private
      cert.certificate.tbs_certificate.subject_public_key_info
  pub identified : HasFirst CE_SUBJECT_KEY_IDENTIFIER.now
      (extensions_in cert.certificate.tbs_certificate.extensions)
      (views.SubjectKeyIdentifier (key_id_of line.key))

-- The certificate is for the line at an index, and its serial number is one more than the index.
pub record IsAtIndex (index : ℕ) (line : Line) (cert : KeptCertificate) : Type 0 where
  pub for : IsForLine line cert
  pub numbered : IsUnsignedInteger (index + 1)
      (integer_contents cert.certificate.tbs_certificate.serial_number)

-- each certificate is for the line at its index
abbrev pub AreForLines : List Line → List KeptCertificate → Type 0
AreForLines lines certificates =
    (place : ℕ) (line : Line) (cert : KeptCertificate) → slice_get lines place ≡ Some line
    → HasCert certificates place cert → IsAtIndex place line cert
