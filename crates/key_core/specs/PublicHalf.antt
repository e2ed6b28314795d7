-- The public key of a private key.
use Rattle.std.specs.Prelude.{◌≡◌, Option, Some, None}
use Rattle.std.specs.Option.{option_map}
use Rattle.asn1_types.specs.declared.bit_string.BitString.{BitString}
use Rattle.key_types.specs.AlgorithmIdentifier.{oid_of, parameters_of}
use Rattle.key_types.specs.declared.algorithm.AlgorithmIdentifier.{AlgorithmIdentifier}
use Rattle.key_types.specs.declared.key_info.SubjectPublicKeyInfo.{SubjectPublicKeyInfo}
use Rattle.key_types.specs.declared.public_key.RsaPublicKey.{RsaPublicKey}
use Rattle.key_types.specs.declared.subject_key.SubjectKey.TheVariants as keys
use Rattle.key_types.specs.declared.rsa_private_key.RsaPrivateKey.{RsaPrivateKey}
use Rattle.key_core.specs.DerivedKeys.{IsEcRefusal, IsEdRefusal}
use Rattle.key_core.specs.MadeKeys.{IsRsaInfo}
use Rattle.key_core.specs.declared.error.KeyContext.TheVariants as contexts
use Rattle.key_core.specs.declared.error.KeyError.{KeyError}
use Rattle.key_core.specs.declared.error.KeyError.TheVariants as errors
use Rattle.key_core.specs.declared.private_key_value.PrivateKeyValue.{PrivateKeyValue}
use Rattle.key_core.specs.declared.private_key_value.PrivateKeyValue.TheVariants as values

-- the modulus and the public exponent of a private key (RFC 8017 A.1)
abbrev pub public_numbers : RsaPrivateKey → RsaPublicKey
public_numbers key = record { modulus = key.n; public_exponent = key.e }

-- The RSA public key is part of the private one. That of a curve is beside the container: of EC
-- with the same algorithm, of Curve25519 and Curve448 with its OID, without parameters (RFC 8410
-- 3).
abbrev pub IsPublicHalf : PrivateKeyValue → AlgorithmIdentifier → Option BitString
    → SubjectPublicKeyInfo → Type 0
IsPublicHalf (values.Rsa key) algorithm public_key info = IsRsaInfo (public_numbers key) info
IsPublicHalf (values.Ec key) algorithm public_key info =
    (info.algorithm ≡ algorithm) × (option_map keys.Ec public_key ≡ Some info.subject_public_key)
IsPublicHalf (values.Ed secret) algorithm public_key info =
    (oid_of info.algorithm ≡ oid_of algorithm) × (parameters_of info.algorithm ≡ None)
    × (option_map keys.Ed public_key ≡ Some info.subject_public_key)

-- why there is none: none is beside the container
abbrev pub RefusesPublicHalf : PrivateKeyValue → Option BitString → KeyError → Type 0
RefusesPublicHalf (values.Rsa key) public_key e = e ≡ errors.Memory
RefusesPublicHalf (values.Ec key) public_key e =
    IsEcRefusal (λ context. (context ≡ contexts.PublicKeyMissing) × (public_key ≡ None)) e
RefusesPublicHalf (values.Ed secret) public_key e =
    IsEdRefusal (λ context. (context ≡ contexts.PublicKeyMissing) × (public_key ≡ None)) e

-- the error if there is none, for RSA impossible
abbrev pub IsMissingHalf : PrivateKeyValue → KeyError → Type 0
IsMissingHalf (values.Rsa key) e = ⊥
IsMissingHalf (values.Ec key) e = e ≡ errors.EC contexts.PublicKeyMissing
IsMissingHalf (values.Ed secret) e = e ≡ errors.ED contexts.PublicKeyMissing
