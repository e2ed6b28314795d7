-- When the signature of the first signer is good, rule by rule, in order (RFC 2315 9.3, 9.4;
-- Windows Authenticode Portable Executable Signature Format).
use Rattle.std.specs.Prelude.{◌≡◌, ◌≢◌, ℕ, List, [], ◌∷◌, Contains}
use Rattle.asn1_types.specs.Elements.{integer, object_identifier_of}
use Rattle.asn1_types.specs.declared.integer.IntegerAsn1.{IntegerAsn1}
use Rattle.asn1_types.specs.declared.oids.TheConstants.{KP_CODE_SIGNING}
use Rattle.cms_types.specs.SignedDataElements.{SignedDataElements}
use Rattle.cms_types.specs.SignerElements.{SignerElements}
use Rattle.der_core.specs.Optional.{members_of}
use Rattle.der_core.specs.DerElement.{DerElement, Primitive}
use Rattle.der_core.specs.Elements.{sequence, octet_string}
use Rattle.der_core.specs.Encoding.{encodings}
use Rattle.der_core.specs.DerElement.{row}
use Rattle.der_core.specs.Rules.{Rule, IsFirstBroken, RefusesByRules}
use Rattle.key_core.specs.Verifying.{Judge, Accepts, verify_rules}
use Rattle.key_core.specs.declared.signature_algorithm.SignatureAlgorithm.TheVariants.{RsaPkcs1v15}
use Rattle.key_core.specs.declared.signature_error.SignatureError.{SignatureError}
use Rattle.key_types.specs.declared.key_info.SubjectPublicKeyInfo.{SubjectPublicKeyInfo}
use Rattle.name_types.specs.Name.{name}
use Rattle.names_core.specs.Names.{sets_of}
use Rattle.names_core.specs.declared.name.DirectoryName.{DirectoryName}
use Rattle.sig_core.specs.Digest.{digest_of}
use Rattle.sig_core.specs.ShaVariant.{digest_identifier, hash_of}
use Rattle.sig_core.specs.declared.error.UnsupportedAlgorithmError.{UnsupportedAlgorithmError}
use Rattle.sig_core.specs.declared.hash.HashAlgorithm.{HashAlgorithm}
use Rattle.sig_core.specs.declared.hash.HashAlgorithm.TheVariants.{SHA2_224}
use Rattle.sig_core.specs.declared.sha_variant.ShaVariant.{ShaVariant}
use Rattle.x509_core.specs.Link.{HasKey}
use Rattle.x509_types.specs.CertificateElements.{CertificateElements}
use Rattle.x509_types.specs.Purposes.{HasPurposes, NamesPurpose}
use Rattle.authenticode_core.specs.BagSigner.{IsSignerPlace, HasNoSigner}
use Rattle.authenticode_core.specs.CertificateBag.{IsBag}
use Rattle.authenticode_core.specs.IssuerWalk.{IsIssuerWalk}
use Rattle.authenticode_core.specs.Indices.{StandsAt}
use Rattle.authenticode_core.specs.SignedFields.{HasMessageDigest, IndirectData, indirect_kids, signed_message, signers_of}
use Rattle.authenticode_core.specs.declared.error.AuthenticodeError.{AuthenticodeError}
use Rattle.authenticode_core.specs.declared.error.AuthenticodeError.TheVariants as errors

-- the certificates that the signed data contains
abbrev pub IsBagOf : SignedDataElements → List CertificateElements → Type 0
IsBagOf f bag = IsBag (members_of f.certificates) bag

-- the certificate of the first signer, and its index
abbrev pub IsSignerCertificate : SignedDataElements → List CertificateElements → ℕ
    → CertificateElements → Type 0
IsSignerCertificate f bag place c = IsSignerPlace (signers_of f) bag place c

-- The algorithm is a digest algorithm, by its OID alone (RFC 8017 appendix B.1).
pub record NamesDigest (algorithm : DerElement) (hash : HashAlgorithm) : Type 0 where
  pub variant : ShaVariant
  pub parameters : List DerElement
  pub is : algorithm ≡ sequence (object_identifier_of (digest_identifier variant) ∷ parameters)
  pub named : hash ≡ hash_of variant

-- the octets of indirect data that are digested: its contents octets
abbrev pub digested_octets : IndirectData → List ℕ
digested_octets d = encodings (row (indirect_kids d))

-- The signature of the first signer over its attributes is one by the key of the certificate, an
-- RSA key, with this digest.
pub record HasSignatureBy (judge : Judge) (g : SignerElements) (hash : HashAlgorithm)
    (c : CertificateElements) : Type 0 where
  pub info : SubjectPublicKeyInfo
  pub key : HasKey c info
  pub signature : List ℕ
  pub octets : g.signature ≡ octet_string signature
  pub accepted : Accepts judge (RsaPkcs1v15 hash) info (signed_message g) signature

-- some certificate of the signer's issuer walk has an extended key usage
pub record AsksForPurposes (bag : List CertificateElements)
    (signer : CertificateElements) : Type 0 where
  pub places : List ℕ
  pub walk : IsIssuerWalk bag signer places
  pub place : ℕ
  pub among : Contains places place
  pub c : CertificateElements
  pub stands : StandsAt bag place c
  pub purposes : HasPurposes c

-- if some certificate of its issuer walk has an extended key usage, the signer's certificate has
-- code signing (RFC 5280 4.2.1.12)
abbrev pub IsForCodeSigning : List CertificateElements → CertificateElements → Type 0
IsForCodeSigning bag signer = AsksForPurposes bag signer → NamesPurpose signer KP_CODE_SIGNING.now

-- The signature of the first signer is good: its certificate is at this index, its key accepts the
-- signature over attributes that have the digest of the indirect data, and it may sign code.
pub record IsSigned (judge : Judge) (f : SignedDataElements) (d : IndirectData) (g : SignerElements)
    (place : ℕ) : Type 0 where
  pub bag : List CertificateElements
  pub is_bag : IsBagOf f bag
  pub certificate : CertificateElements
  pub is_signer : IsSignerCertificate f bag place certificate
  pub hash : HashAlgorithm
  pub named : NamesDigest g.digest_algorithm hash
  pub signed : HasSignatureBy judge g hash certificate
  pub supported : hash ≢ SHA2_224
  pub bound : HasMessageDigest g (digest_of hash (digested_octets d))
  pub code_signing : IsForCodeSigning bag certificate

-- ---- rules, by what breaks them

-- the first signer is identified by a key identifier
abbrev pub IsNamedByKey : SignerElements → Rule AuthenticodeError
IsNamedByKey g e =
    (octets : List ℕ) × (g.sid ≡ Primitive 0x80 octets) × (e ≡ errors.IncorrectSignerIdentifier)

-- no certificate has the issuer and the serial number of the first signer
pub record HasNoCertificate (f : SignedDataElements) (g : SignerElements)
    (e : AuthenticodeError) : Type 0 where
  pub issuer : DirectoryName
  pub serial_number : IntegerAsn1
  pub named : g.sid ≡ sequence (name (sets_of issuer) ∷ integer serial_number ∷ [])
  pub bag : List CertificateElements
  pub is_bag : IsBagOf f bag
  pub none : HasNoSigner (signers_of f) bag
  pub returned : e ≡ errors.NoCertificatesAssociatedWithIssuerAndSerialNumber issuer serial_number

-- the digest algorithm isn't known
abbrev pub HasUnknownDigest : SignerElements → Rule AuthenticodeError
HasUnknownDigest g e =
    ((hash : HashAlgorithm) → NamesDigest g.digest_algorithm hash → ⊥)
    × (u : UnsupportedAlgorithmError) × (e ≡ errors.UnsupportedAlgorithmError u)

-- The signature over the attributes by RSA with this digest is refused under the key of the
-- certificate.
pub record IsRefusedUnder (judge : Judge) (g : SignerElements) (hash : HashAlgorithm)
    (c : CertificateElements) (e : AuthenticodeError) : Type 0 where
  pub info : SubjectPublicKeyInfo
  pub key : HasKey c info
  pub signature : List ℕ
  pub octets : g.signature ≡ octet_string signature
  pub source : SignatureError
  pub refused : IsFirstBroken
      (verify_rules judge (RsaPkcs1v15 hash) info (signed_message g) signature) source
  pub returned : e ≡ errors.SignatureError source

-- the signature isn't accepted
pub record IsBadlySigned (judge : Judge) (f : SignedDataElements) (g : SignerElements)
    (e : AuthenticodeError) : Type 0 where
  pub bag : List CertificateElements
  pub is_bag : IsBagOf f bag
  pub place : ℕ
  pub certificate : CertificateElements
  pub is_signer : IsSignerCertificate f bag place certificate
  pub hash : HashAlgorithm
  pub named : NamesDigest g.digest_algorithm hash
  pub refused : IsRefusedUnder judge g hash certificate e

-- no message digest attribute, or the first one has no value
abbrev pub HasNoMessageDigest : SignerElements → Rule AuthenticodeError
HasNoMessageDigest g e =
    ((digest : List ℕ) → HasMessageDigest g digest → ⊥) × (e ≡ errors.NoMessageDigest)

-- the digest is SHA-224
abbrev pub IsUnsupportedDigest : SignerElements → Rule AuthenticodeError
IsUnsupportedDigest g e =
    NamesDigest g.digest_algorithm SHA2_224
    × (e ≡ errors.UnsupportedHashAlgorithmError (record { algorithm = SHA2_224 }))

-- the first message digest isn't that of the indirect data
pub record DigestDiffers (d : IndirectData) (g : SignerElements)
    (e : AuthenticodeError) : Type 0 where
  pub hash : HashAlgorithm
  pub named : NamesDigest g.digest_algorithm hash
  pub actual : List ℕ
  pub has : HasMessageDigest g actual
  pub differs : actual ≢ digest_of hash (digested_octets d)
  pub returned : e ≡ errors.HashMismatch actual (digest_of hash (digested_octets d))

-- the signer's certificate may not sign code
pub record IsNotForCodeSigning (f : SignedDataElements) (e : AuthenticodeError) : Type 0 where
  pub bag : List CertificateElements
  pub is_bag : IsBagOf f bag
  pub place : ℕ
  pub certificate : CertificateElements
  pub is_signer : IsSignerCertificate f bag place certificate
  pub asks : AsksForPurposes bag certificate
  pub unnamed : NamesPurpose certificate KP_CODE_SIGNING.now → ⊥
  pub returned : e ≡ errors.NoEKUCodeSigning

-- The rules of the signature, in order.
abbrev pub signing_rules : Judge → SignedDataElements → IndirectData → SignerElements
    → List (Rule AuthenticodeError)
signing_rules judge f d g =
    IsNamedByKey g ∷ HasNoCertificate f g ∷ HasUnknownDigest g ∷ IsBadlySigned judge f g ∷
    HasNoMessageDigest g ∷ IsUnsupportedDigest g ∷ DigestDiffers d g ∷ IsNotForCodeSigning f ∷ []

-- the error reports the first broken rule, unless memory ran out
abbrev pub RefusesAuthenticodeBy : List (Rule AuthenticodeError) → AuthenticodeError → Type 0
RefusesAuthenticodeBy = RefusesByRules errors.Memory
