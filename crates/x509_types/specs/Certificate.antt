-- Certificate ::= SEQUENCE { tbsCertificate TBSCertificate, signatureAlgorithm AlgorithmIdentifier,
-- signatureValue BIT STRING } (RFC 5280 4.1)
use Rattle.std.specs.Prelude.{◌≡◌, ℕ, [], ◌∷◌, ◌++◌, List}
use Rattle.der_core.specs.DerElement.{DerElement}
use Rattle.der_core.specs.Elements.{sequence}
use Rattle.der_core.specs.Encoding.{encoding}
use Rattle.asn1_types.specs.Elements.{bit_string}
use Rattle.key_types.specs.AlgorithmIdentifier.{algorithm_identifier}
use Rattle.x509_types.specs.Extension.{value_kinds}
use Rattle.x509_types.specs.CertificateElements.{CertificateElements, certificate_of, AreCertificateFields}
use Rattle.x509_types.specs.TbsCertificate.{tbs_certificate, inner_tbs}
use Rattle.x509_types.specs.declared.certificate.Certificate.{Certificate}

-- The element encodes the certificate: it has its fields, and each of them encodes its value.
pub record IsCertificate (element : DerElement) (c : Certificate) : Type 0 where
  pub elements : CertificateElements
  pub is : element ≡ certificate_of elements
  pub spelled : AreCertificateFields elements c

-- the element that is written
abbrev pub certificate : Certificate → DerElement
certificate c =
    sequence (tbs_certificate c.tbs_certificate ∷ algorithm_identifier c.signature_algorithm ∷
    bit_string c.signature_value ∷ [])

-- the elements that it wraps in strings
abbrev pub inner_certificate : Certificate → List DerElement
inner_certificate c = inner_tbs c.tbs_certificate

-- the kinds of its extension values, and its encoding
abbrev pub certificate_octets : Certificate → List ℕ
certificate_octets c = value_kinds c.tbs_certificate.extensions ++ encoding (certificate c)
