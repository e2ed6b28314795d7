-- The plain form of signed data: one signer with an RSA key and SHA-256, one certificate, three
-- signed attributes. OIDs are the constants of `asn1_types::oids`, which
-- `asn1_types.specs.NamedIdentifiers` lists by name.
use Rattle.std.specs.Prelude.{◌≡◌, ◌≢◌, ℕ, ◌≤◌, List, [], ◌∷◌, codes, Ok}
use Rattle.asn1_types.specs.Elements.{integer_of, object_identifier_of}
use Rattle.cms_types.specs.AttributeElement.{attribute_of}
use Rattle.sha2.specs.Sha256.{sha256}
use Rattle.der_core.specs.DerElement.{DerElement, Primitive, row}
use Rattle.der_core.specs.Encoding.{encoding, encodings, IsDer, IsPaddedEncoding}
use Rattle.wincert_core.specs.Refusal.{contents_in}
use Rattle.der_core.specs.Elements.{sequence, set, null, bit_octets, octet_string}
use Rattle.authenticode_core.specs.Asn1.{context, utf8_string_of, utc_time_of}
use Rattle.asn1_types.specs.declared.oids.TheConstants as identifiers

-- an AlgorithmIdentifier with NULL parameters (RFC 5280 4.1.1.2)
abbrev pub algorithm : List ℕ → DerElement
algorithm oid = sequence (object_identifier_of oid ∷ null ∷ [])

-- a Name with one common name (RFC 5280 4.1.2.4)
abbrev pub plain_name : List ℕ → DerElement
plain_name text =
    sequence (set
    (sequence (object_identifier_of identifiers.AT_COMMON_NAME.now ∷ utf8_string_of text ∷ []) ∷
    []) ∷ [])

-- a Validity between two times of two-digit years (RFC 5280 4.1.2.5)
abbrev pub plain_validity : List ℕ → List ℕ → DerElement
plain_validity not_before not_after = sequence (utc_time_of not_before ∷ utc_time_of not_after ∷ [])

-- the SubjectPublicKeyInfo of an RSA key (RFC 5280 4.1.2.7)
abbrev pub plain_public_key_info : List ℕ → DerElement
plain_public_key_info key =
    sequence (algorithm identifiers.RSA_ENCRYPTION.now ∷ bit_octets key ∷ [])

-- what varies in the signed part of a certificate
pub record TbsParts : Type 0 where
  pub serial : List ℕ
  pub issuer : List ℕ
  pub not_before : List ℕ
  pub not_after : List ℕ
  pub subject : List ℕ
  pub key : List ℕ

-- the version of certificates that may have extensions (RFC 5280 4.1.2.1)
abbrev pub version_3 : DerElement
version_3 = context 0 (integer_of (2 ∷ []) ∷ [])

-- a TBSCertificate of version 3 without extensions (RFC 5280 4.1.2)
abbrev pub tbs_fields : TbsParts → List DerElement
tbs_fields c =
    version_3
    ∷ integer_of c.serial
    ∷ algorithm identifiers.SHA256_WITH_RSA_ENCRYPTION.now
    ∷ plain_name c.issuer
    ∷ plain_validity c.not_before c.not_after
    ∷ plain_name c.subject
    ∷ plain_public_key_info c.key
    ∷ []

-- a TBSCertificate with these fields
abbrev pub plain_tbs_certificate : TbsParts → DerElement
plain_tbs_certificate c =
    sequence (tbs_fields c)

-- what varies in a certificate
pub record CertificateParts : Type 0 where
  pub tbs : TbsParts
  pub signature : List ℕ

-- a Certificate (RFC 5280 4.1.1)
abbrev pub plain_certificate : CertificateParts → DerElement
plain_certificate c =
    sequence (plain_tbs_certificate c.tbs ∷ algorithm identifiers.SHA256_WITH_RSA_ENCRYPTION.now ∷
    bit_octets c.signature ∷ [])

-- an SpcLink to a file without a name (Authenticode)
abbrev pub empty_link : DerElement
empty_link = context 0 (context 2 (Primitive 0x80 [] ∷ []) ∷ [])

-- an SpcAttributeTypeAndOptionalValue: a portable executable, without page hashes (Authenticode)
abbrev pub image_data : DerElement
image_data =
    sequence (object_identifier_of identifiers.SPC_PE_IMAGE_DATA.now ∷
    sequence (bit_octets [] ∷ empty_link ∷ []) ∷ [])

-- a DigestInfo of SHA-256 (Authenticode, RFC 2315 9.4)
abbrev pub plain_digest_info : List ℕ → DerElement
plain_digest_info file_hash =
    sequence (algorithm identifiers.SHA256.now ∷ octet_string file_hash ∷ [])

-- an SpcIndirectDataContent: what the file is, and its digest (Authenticode)
abbrev pub indirect_data : List ℕ → DerElement
indirect_data file_hash = sequence (image_data ∷ plain_digest_info file_hash ∷ [])

-- a ContentInfo of indirect data (RFC 2315 7)
abbrev pub plain_content_info : List ℕ → DerElement
plain_content_info file_hash =
    sequence (object_identifier_of identifiers.SPC_INDIRECT_DATA.now ∷
    context 0 (indirect_data file_hash ∷ []) ∷ [])

-- an Attribute with one value (RFC 5652 5.3)
abbrev pub plain_attribute : List ℕ → DerElement → DerElement
plain_attribute oid value = attribute_of oid (value ∷ [])

-- an SpcSpOpusInfo without a program's name, and with an empty URL (Authenticode)
abbrev pub no_program_name : DerElement
no_program_name = sequence (context 1 (Primitive 0x80 [] ∷ []) ∷ [])

-- the signed attributes: the type of the content, the publisher's information, and the digest of
-- the content (RFC 2985 5.3, Authenticode)
abbrev pub plain_attributes : List ℕ → List DerElement
plain_attributes message_digest =
    plain_attribute identifiers.CONTENT_TYPE.now
    (object_identifier_of identifiers.SPC_INDIRECT_DATA.now) ∷
    plain_attribute identifiers.SPC_SP_OPUS_INFO.now no_program_name ∷
    plain_attribute identifiers.MESSAGE_DIGEST.now (octet_string message_digest) ∷ []

-- what varies in the signer
pub record SignerParts : Type 0 where
  pub issuer : List ℕ
  pub serial : List ℕ
  pub message_digest : List ℕ
  pub signature : List ℕ

-- IssuerAndSerialNumber (RFC 2315 6.7)
abbrev pub plain_issuer_and_serial_number : List ℕ → List ℕ → DerElement
plain_issuer_and_serial_number issuer serial = sequence (plain_name issuer ∷ integer_of serial ∷ [])

-- a SignerInfo of version 1, whose signature algorithm is that of its key (RFC 2315 9.2)
abbrev pub signer_fields : SignerParts → List DerElement
signer_fields s =
    integer_of (1 ∷ [])
    ∷ plain_issuer_and_serial_number s.issuer s.serial
    ∷ algorithm identifiers.SHA256.now
    ∷ context 0 (plain_attributes s.message_digest)
    ∷ algorithm identifiers.RSA_ENCRYPTION.now
    ∷ octet_string s.signature
    ∷ []

-- a SignerInfo with these fields
abbrev pub plain_signer_info : SignerParts → DerElement
plain_signer_info s = sequence (signer_fields s)

-- what varies in the signed data
pub record PlainParts : Type 0 where
  pub certificate : CertificateParts
  pub file_hash : List ℕ
  pub signer : SignerParts

-- a SignedData of version 1, with one certificate, an empty list of revocation lists and one signer
-- (RFC 2315 9.1)
abbrev pub signed_data_fields : PlainParts → List DerElement
signed_data_fields p =
    integer_of (1 ∷ [])
    ∷ set (algorithm identifiers.SHA256.now ∷ [])
    ∷ plain_content_info p.file_hash
    ∷ context 0 (plain_certificate p.certificate ∷ [])
    ∷ context 1 []
    ∷ set (plain_signer_info p.signer ∷ [])
    ∷ []

-- a SignedData with these fields
abbrev pub plain_signed_data : PlainParts → DerElement
plain_signed_data p = sequence (signed_data_fields p)

-- a ContentInfo with signed data (RFC 2315 7)
abbrev pub signed_content : PlainParts → DerElement
signed_content p =
    sequence
    (object_identifier_of identifiers.SIGNED_DATA.now ∷ context 0 (plain_signed_data p ∷ []) ∷ [])

-- `0` to `9`
abbrev pub IsDigit : ℕ → Type 0
IsDigit c = (0x30 ≤ c) × (c ≤ 0x39)

-- the first second of a year: YY0101000000Z
pub record IsNewYear (time : List ℕ) : Type 0 where
  pub tens : ℕ
  pub units : ℕ
  pub digits : IsDigit tens × IsDigit units
  pub written : time ≡ tens ∷ units ∷ codes "0101000000Z"

-- an INTEGER with contents octets (X.690 8.3.1)
pub record IsSomeInteger (element : DerElement) : Type 0 where
  pub contents : List ℕ
  pub some : contents ≢ []
  pub written : element ≡ integer_of contents

-- an RSAPublicKey, with its modulus and exponent (RFC 8017 A.1.1)
pub record IsPlainPublicKey (element : DerElement) : Type 0 where
  pub modulus : DerElement
  pub exponent : DerElement
  pub integers : IsSomeInteger modulus × IsSomeInteger exponent
  pub written : element ≡ sequence (modulus ∷ exponent ∷ [])

-- the octets of an RSAPublicKey, which the scheme gets as they are
pub record IsPlainKey (key : List ℕ) : Type 0 where
  pub element : DerElement
  pub public_key : IsPlainPublicKey element
  pub der : IsDer element
  pub encoded : key ≡ encoding element

-- The contents octets of the indirect data, which the signed attributes bind by their digest.
abbrev pub bound_contents : List ℕ → List ℕ
bound_contents file_hash = encodings (row (image_data ∷ plain_digest_info file_hash ∷ []))

-- the rules for the parts
pub record IsPlain (p : PlainParts) : Type 0 where
  pub issuer : p.signer.issuer ≡ p.certificate.tbs.issuer
  pub serial : p.signer.serial ≡ p.certificate.tbs.serial
  pub some_serial : p.certificate.tbs.serial ≢ []
  pub not_before : IsNewYear p.certificate.tbs.not_before
  pub not_after : IsNewYear p.certificate.tbs.not_after
  pub key : IsPlainKey p.certificate.tbs.key
  pub bound : p.signer.message_digest ≡ sha256 (bound_contents p.file_hash)

-- The octets begin with a WIN_CERTIFICATE whose certificate encodes signed data of the plain form,
-- with these parts.
pub record IsPlainForm (octets : List ℕ) (p : PlainParts) : Type 0 where
  pub certificate : List ℕ
  pub named : contents_in octets ≡ Ok certificate
  pub spelled : IsPaddedEncoding certificate (signed_content p)
  pub plain : IsPlain p

-- The octets that are signed: the signed attributes as a SET (RFC 2315 9.3).
abbrev pub plain_message : PlainParts → List ℕ
plain_message p = encoding (set (plain_attributes p.signer.message_digest))
