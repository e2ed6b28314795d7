-- A program to be signed, and when signed data is its signature.
use Rattle.std.specs.Prelude.{◌≡◌, ⊤, ℕ, List, [], ◌∷◌, map, true, Option, Some, None}
use Rattle.asn1_types.specs.Elements.{integer_of}
use Rattle.cms_types.specs.DigestAlgorithm.{digest_algorithm}
use Rattle.cms_types.specs.SignedDataElements.{SignedDataElements}
use Rattle.cms_types.specs.Units.{IsBasicPlane}
use Rattle.der_core.specs.DerElement.{DerElement}
use Rattle.der_core.specs.Elements.{sequence}
use Rattle.key_core.specs.Signing.{KeyArithmetic, IsAsked, IsKeyPair}
use Rattle.key_core.specs.Verifying.{Accepts}
use Rattle.key_core.specs.declared.private_key.PrivateKey.{PrivateKey}
use Rattle.key_core.specs.declared.signature_algorithm.SignatureAlgorithm.{SignatureAlgorithm}
use Rattle.key_core.specs.declared.signature_algorithm.SignatureAlgorithm.TheVariants.{RsaPkcs1v15}
use Rattle.key_types.specs.declared.key_info.SubjectPublicKeyInfo.{SubjectPublicKeyInfo}
use Rattle.sig_core.specs.ShaVariant.{hash_of}
use Rattle.sig_core.specs.declared.sha_variant.ShaVariant.{ShaVariant}
use Rattle.x509_types.specs.CertificateElements.{CertificateElements, certificate_of}
use Rattle.authenticode_parts.specs.Carried.{AreCarried}
use Rattle.authenticode_parts.specs.MadeContent.{attributes_message, content_digest, opus_element, program_attributes, program_content}
use Rattle.authenticode_parts.specs.MadeSignature.{SignatureParts, attributes_element, signature_made}

-- What is signed of a program: the digest algorithm, the digest of the file, and what is said about
-- the program.
pub record Program : Type 0 where
  pub hash : ShaVariant
  pub file_hash : List ℕ
  pub opus : DerElement

-- a program with a name, or without one
abbrev pub program_of : ShaVariant → List ℕ → Option (List ℕ) → Program
program_of hash file_hash name =
    record { hash = hash; file_hash = file_hash; opus = opus_element name }

-- the name, if any, has only characters of the basic plane
abbrev pub IsBasicName : Option (List ℕ) → Type 0
IsBasicName None = ⊤
IsBasicName (Some text) = IsBasicPlane text

-- the attributes that are signed
abbrev pub attributes_for : Program → List DerElement
attributes_for p = program_attributes p.opus (content_digest p.hash p.file_hash)

-- the signature algorithm
abbrev pub algorithm_for : Program → SignatureAlgorithm
algorithm_for p = RsaPkcs1v15 (hash_of p.hash)

-- the octets that are signed
abbrev pub message_for : Program → List ℕ
message_for p = attributes_message (attributes_for p)

-- the issuer and the serial number of a certificate (RFC 5652 10.2.4)
abbrev pub issuer_and_serial_of : CertificateElements → DerElement
issuer_and_serial_of c = sequence (c.tbs.issuer ∷ integer_of c.tbs.serial_number ∷ [])

-- The signature of a program by the first of these certificates.
abbrev pub parts_for : Program → (first : CertificateElements)
    → (carried : List CertificateElements) → (signature : List ℕ) → SignatureParts
parts_for p first carried signature = record {
  algorithm = digest_algorithm p.hash;
  content_info = program_content p.hash p.file_hash;
  certificates = map certificate_of carried;
  named = issuer_and_serial_of first;
  attributes = attributes_element (attributes_for p);
  signature = signature;
  unsigned = None;
}

-- The octets are a signature of the message by the key, accepted under each public key that pairs
-- with it.
pub record IsSignature (scheme : KeyArithmetic) (algorithm : SignatureAlgorithm) (key : PrivateKey)
    (message signature : List ℕ) : Type 0 where
  pub signed : IsAsked scheme.signs algorithm key message true
  pub accepted : (info : SubjectPublicKeyInfo) → IsKeyPair scheme.pair key info
      → Accepts scheme.judge algorithm info message signature

-- The signed data is the signature of the program by this key and by the first of the certificates,
-- some of which it contains.
pub record IsSignedProgram (scheme : KeyArithmetic) (bag : List CertificateElements)
    (first : CertificateElements) (p : Program) (key : PrivateKey)
    (made : SignedDataElements) : Type 0 where
  pub carried : List CertificateElements
  pub are_carried : AreCarried bag carried
  pub signature : List ℕ
  pub is_signature : IsSignature scheme (algorithm_for p) key (message_for p) signature
  pub fields : made ≡ signature_made (parts_for p first carried signature)
