-- Curve25519 and Curve448 private keys from components.
use Rattle.std.specs.Prelude.{◌≡◌, ℕ, List, Option, Some, None}
use Rattle.std.specs.Option.{option_map}
use Rattle.asn1_types.specs.Values.{bit_string_contents}
use Rattle.asn1_types.specs.declared.oid.ObjectIdentifier.{ObjectIdentifier}
use Rattle.key_types.specs.AlgorithmIdentifier.{oid_of, parameters_of}
use Rattle.key_core.specs.DerivedKeys.{whole_bits}
use Rattle.key_core.specs.declared.private_key.PrivateKey.{PrivateKey}
use Rattle.key_core.specs.declared.private_key_value.PrivateKeyValue.TheVariants as values
use Rattle.key_core.specs.declared.private_key_version.PrivateKeyVersion.{PrivateKeyVersion}
use Rattle.key_core.specs.declared.private_key_version.PrivateKeyVersion.TheVariants as versions

-- A container with a public key has version 2 (RFC 5958 2).
abbrev pub version_beside : Option (List ℕ) → PrivateKeyVersion
version_beside None = versions.V1
version_beside (Some public_key) = versions.V2

-- A key with these octets as its secret and, if given, its public key (RFC 8410 7): there are no
-- parameters, and the public key is in the container.
pub record IsGivenEdKey (algorithm : ObjectIdentifier) (secret : List ℕ)
    (public_key : Option (List ℕ)) (key : PrivateKey) : Type 0 where
  pub version : key.info.version ≡ version_beside public_key
  pub identifier : oid_of key.info.private_key_algorithm ≡ algorithm
  pub parameters : parameters_of key.info.private_key_algorithm ≡ None
  pub is : key.info.private_key ≡ values.Ed secret
  pub attributes : key.info.attributes ≡ None
  pub present : key.info.public_key ≡ key.public_key
  pub public_is : option_map bit_string_contents key.public_key ≡ option_map whole_bits public_key
