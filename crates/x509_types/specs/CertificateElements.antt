-- The fields of a Certificate as elements (RFC 5280 4.1, 4.1.1).
use Rattle.std.specs.Prelude.{◌≡◌, ℕ, List, [], ◌∷◌}
use Rattle.der_core.specs.DerElement.{DerElement, Primitive}
use Rattle.der_core.specs.Elements.{sequence}
use Rattle.asn1_types.specs.Values.{bit_string_contents}
use Rattle.key_types.specs.AlgorithmIdentifier.{algorithm_identifier}
use Rattle.x509_types.specs.TbsElements.{TbsElements, tbs_of}
use Rattle.x509_types.specs.TbsCertificate.{AreTbsFields}
use Rattle.x509_types.specs.declared.certificate.Certificate.{Certificate}

-- The elements in what is signed, that of the algorithm beside it, and the signature as its count
-- of unused bits and the octets that hold the bits.
pub record CertificateElements : Type 0 where
  pub tbs : TbsElements
  pub algorithm : DerElement
  pub unused : ℕ
  pub signature : List ℕ

-- the element around them
abbrev pub certificate_of : CertificateElements → DerElement
certificate_of f =
    sequence (tbs_of f.tbs ∷ f.algorithm ∷ Primitive 0x03 (f.unused ∷ f.signature) ∷ [])

-- Each element encodes the value of its field.
pub record AreCertificateFields (f : CertificateElements) (c : Certificate) : Type 0 where
  pub tbs : AreTbsFields f.tbs c.tbs_certificate
  pub algorithm : f.algorithm ≡ algorithm_identifier c.signature_algorithm
  pub signature : f.unused ∷ f.signature ≡ bit_string_contents c.signature_value
