-- The times and the key of a certificate's value are those nested in its elements.
use Rattle.std.specs.Prelude.{◌≡◌, ℕ, List, Some}
use Rattle.der_core.specs.Encoding.{encoding}
use Rattle.asn1_types.specs.Values.{payload_of}
use Rattle.asn1_types.specs.Elements.{time}
use Rattle.key_types.specs.AlgorithmIdentifier.{algorithm_identifier}
use Rattle.key_types.specs.RsaPublicKey.{rsa_public_key}
use Rattle.key_types.specs.declared.subject_key.SubjectKey.{SubjectKey}
use Rattle.key_types.specs.declared.subject_key.SubjectKey.TheVariants as keys
use Rattle.x509_types.specs.CertificateElements.{CertificateElements}
use Rattle.x509_types.specs.CertificateFields.{not_before_of, not_after_of, key_algorithm_of, key_octets_of}
use Rattle.x509_types.specs.declared.certificate.Certificate.{Certificate}

-- the octets that hold the bits of a key: for an RSA key the encoding of an RSAPublicKey (RFC 3279
-- 2.3.1)
abbrev pub key_payload : SubjectKey → List ℕ
key_payload (keys.Rsa key) = encoding (rsa_public_key key)
key_payload (keys.Ec bits) = payload_of bits
key_payload (keys.Ed bits) = payload_of bits
key_payload (keys.Mldsa bits) = payload_of bits

-- Each field is at the end of its path.
pub record AreInnerFields (f : CertificateElements) (c : Certificate) : Type 0 where
  pub not_before : not_before_of f ≡ Some (time c.tbs_certificate.validity.not_before)
  pub not_after : not_after_of f ≡ Some (time c.tbs_certificate.validity.not_after)
  pub key_algorithm : key_algorithm_of f ≡ Some
      (algorithm_identifier c.tbs_certificate.subject_public_key_info.algorithm)
  pub key_octets : key_octets_of f ≡ Some
      (key_payload c.tbs_certificate.subject_public_key_info.subject_public_key)
