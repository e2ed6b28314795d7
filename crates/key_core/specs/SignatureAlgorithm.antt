-- Signature algorithms: their OIDs, and what they sign.
use Rattle.std.specs.Prelude.{◌≡◌, ℕ, List, Option, Some, None}
use Rattle.der_core.specs.DerElement.{DerElement}
use Rattle.der_core.specs.Elements.{null}
use Rattle.der_core.specs.BorrowedOption.{kept_option}
use Rattle.der_core.specs.Rules.{OrMemory}
use Rattle.asn1_types.specs.Values.{identifier_contents}
use Rattle.asn1_types.specs.declared.oids.TheConstants as octets
use Rattle.key_types.specs.AlgorithmIdentifier.{oid_of, parameters_of}
use Rattle.key_types.specs.declared.algorithm.AlgorithmIdentifier.{AlgorithmIdentifier}
use Rattle.sig_core.specs.declared.hash.HashAlgorithm.{HashAlgorithm}
use Rattle.sig_core.specs.declared.hash.HashAlgorithm.TheVariants.{MD5, SHA1, SHA2_224, SHA2_256, SHA2_384, SHA2_512}
use Rattle.key_core.specs.declared.signature_algorithm.SignatureAlgorithm.{SignatureAlgorithm}
use Rattle.key_core.specs.declared.signature_algorithm.SignatureAlgorithm.TheVariants.{RsaPkcs1v15, Ecdsa, Ed25519}
use Rattle.key_core.specs.declared.signature_error.SigContext.TheVariants as contexts
use Rattle.key_core.specs.declared.signature_error.SignatureError.{SignatureError}
use Rattle.key_core.specs.declared.signature_error.SignatureError.TheVariants as errors
use Rattle.key_core.specs.declared.signature_error.Unsupported.TheVariants as unsupported

-- the contents octets of the OID, if it has one here (RFC 8017 A.2.4, RFC 5758 3.2, RFC 8410 3)
abbrev pub signature_identifier : SignatureAlgorithm → Option (List ℕ)
signature_identifier (RsaPkcs1v15 MD5) = Some octets.MD5_WITH_RSA_ENCRYPTION.now
signature_identifier (RsaPkcs1v15 SHA1) = Some octets.SHA1_WITH_RSA_ENCRYPTION.now
signature_identifier (RsaPkcs1v15 SHA2_224) = Some octets.SHA224_WITH_RSA_ENCRYPTION.now
signature_identifier (RsaPkcs1v15 SHA2_256) = Some octets.SHA256_WITH_RSA_ENCRYPTION.now
signature_identifier (RsaPkcs1v15 SHA2_384) = Some octets.SHA384_WITH_RSA_ENCRYPTION.now
signature_identifier (RsaPkcs1v15 SHA2_512) = Some octets.SHA512_WITH_RSA_ENCRYPTION.now
signature_identifier (Ecdsa MD5) = None
signature_identifier (Ecdsa SHA1) = None
signature_identifier (Ecdsa SHA2_224) = None
signature_identifier (Ecdsa SHA2_256) = Some octets.ECDSA_WITH_SHA256.now
signature_identifier (Ecdsa SHA2_384) = Some octets.ECDSA_WITH_SHA384.now
signature_identifier (Ecdsa SHA2_512) = Some octets.ECDSA_WITH_SHA512.now
signature_identifier Ed25519 = Some octets.ED25519.now

-- the parameters: NULL for RSA (RFC 8017 A.2.4), none for the others (RFC 5758 3.2, RFC 8410 3)
abbrev pub signature_parameters : SignatureAlgorithm → Option DerElement
signature_parameters (RsaPkcs1v15 hash) = Some null
signature_parameters (Ecdsa hash) = None
signature_parameters Ed25519 = None

-- the digest that is signed; Ed25519 takes it itself (RFC 8032 5.1)
abbrev pub signature_hash : SignatureAlgorithm → HashAlgorithm
signature_hash (RsaPkcs1v15 hash) = hash
signature_hash (Ecdsa hash) = hash
signature_hash Ed25519 = SHA2_512

-- The OID is that of the algorithm, whatever the parameters are.
abbrev pub NamesSignature : AlgorithmIdentifier → SignatureAlgorithm → Type 0
NamesSignature id algorithm =
    signature_identifier algorithm ≡ Some (identifier_contents (oid_of id))

-- An algorithm as written.
pub record IsWrittenAlgorithm (algorithm : SignatureAlgorithm)
    (id : AlgorithmIdentifier) : Type 0 where
  pub identifier : NamesSignature id algorithm
  pub parameters : kept_option (parameters_of id) ≡ signature_parameters algorithm

-- why an AlgorithmIdentifier isn't read: its OID names no algorithm; the error has the OID
abbrev pub IsUnnamed : AlgorithmIdentifier → SignatureError → Type 0
IsUnnamed id e =
    ((algorithm : SignatureAlgorithm) → NamesSignature id algorithm → ⊥)
    × OrMemory errors.Memory
    (λ returned. returned ≡ errors.UnsupportedAlgorithm (unsupported.Oid (oid_of id))) e

-- why an algorithm isn't written: it has no OID
abbrev pub IsUnwritable : SignatureAlgorithm → SignatureError → Type 0
IsUnwritable algorithm =
    OrMemory errors.Memory
    (λ e. (signature_identifier algorithm ≡ None) × (e ≡ errors.Ec contexts.HashNotSupported))
