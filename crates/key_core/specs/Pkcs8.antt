-- Private keys by the encoding of a PrivateKeyInfo.
use Rattle.std.specs.Prelude.{◌≡◌, ◌≢◌, ◌⊎◌, ℕ, List, Option, Some, None}
use Rattle.der_core.specs.DerElement.{DerElement}
use Rattle.der_core.specs.BorrowedOption.{kept_option}
use Rattle.der_core.specs.Refusals.{RefusesOctets}
use Rattle.der_core.specs.Structure.{IsWithin}
use Rattle.asn1_types.specs.Elements.{object_identifier}
use Rattle.asn1_types.specs.Values.{identifier_contents}
use Rattle.asn1_types.specs.declared.oid.ObjectIdentifier.{ObjectIdentifier}
use Rattle.key_types.specs.declared.ec_private_key.ECPrivateKey.{ECPrivateKey}
use Rattle.key_types.specs.AlgorithmIdentifier.{oid_of, parameters_of}
use Rattle.key_core.specs.CurveKeys.{IsCurveKey, RefusesCurveKey}
use Rattle.key_core.specs.DerivedKeys.{Derivation, IsEdOf, IsEdKeyOf, RefusesEdKey, IsEcRefusal, IsEdRefusal}
use Rattle.key_core.specs.KeyRefusals.{IsUnreadKey}
use Rattle.key_core.specs.PrivateKeyInfo.{IsPrivateKeyInfo}
use Rattle.key_core.specs.declared.ed_algorithm.EdAlgorithm.{EdAlgorithm}
use Rattle.key_core.specs.declared.element.Element.TheVariants as elements
use Rattle.key_core.specs.declared.error.KeyContext.{KeyContext}
use Rattle.key_core.specs.declared.error.KeyContext.TheVariants as contexts
use Rattle.key_core.specs.declared.error.KeyError.{KeyError}
use Rattle.key_core.specs.declared.error.KeyError.TheVariants as errors
use Rattle.key_core.specs.declared.private_key.PrivateKey.{PrivateKey}
use Rattle.key_core.specs.declared.private_key_info.PrivateKeyInfo.{PrivateKeyInfo}
use Rattle.key_core.specs.declared.private_key_value.PrivateKeyValue.{PrivateKeyValue}
use Rattle.key_core.specs.declared.private_key_value.PrivateKeyValue.TheVariants as values

-- A Curve25519 or Curve448 key is stored as it was read; its public key is never the one in the
-- container.
pub record IsKeptEd (derives : Derivation) (secret : List ℕ) (info : PrivateKeyInfo)
    (key : PrivateKey) : Type 0 where
  pub as_read : key.info ≡ info
  pub known : Option EdAlgorithm
  pub named : IsEdOf (identifier_contents (oid_of info.private_key_algorithm)) known
  pub derived : IsEdKeyOf derives known secret key.public_key

-- An EC key is written anew, on the curve that the parameters name.
pub record IsKeptEc (derives : Derivation) (read : ECPrivateKey) (info : PrivateKeyInfo)
    (key : PrivateKey) : Type 0 where
  pub curve : ObjectIdentifier
  pub parameters : kept_option (parameters_of info.private_key_algorithm)
      ≡ Some (object_identifier curve)
  pub is : IsCurveKey derives curve read key

-- the key of a container with this private key; an RSA key is stored as it was read
abbrev pub IsKeptKey : Derivation → PrivateKeyValue → PrivateKeyInfo → PrivateKey → Type 0
IsKeptKey derives (values.Rsa rsa) info key = (key.info ≡ info) × (key.public_key ≡ None)
IsKeptKey derives (values.Ec read) info key = IsKeptEc derives read info key
IsKeptKey derives (values.Ed secret) info key = IsKeptEd derives secret info key

-- the key is the key of its own container, as is every key that was read
abbrev pub KeepsItself : Derivation → PrivateKey → Type 0
KeepsItself derives key = IsKeptKey derives key.info.private_key key.info key

-- why a container with an EC key is refused: the parameters name no curve, or there is no key on it
abbrev pub RefusesEcInfo : Derivation → ECPrivateKey → Option DerElement → KeyContext → Type 0
RefusesEcInfo derives read parameters context =
    ((context ≡ contexts.CurveParameters)
    × ((curve : ObjectIdentifier) → parameters ≢ Some (object_identifier curve)))
    ⊎ ((curve : ObjectIdentifier) × (parameters ≡ Some (object_identifier curve))
    × RefusesCurveKey derives curve read context)

-- why a container with a Curve25519 or Curve448 key is refused: the algorithm is supported, and
-- there is no public key for the secret
abbrev pub RefusesEdInfo : Derivation → List ℕ → List ℕ → KeyContext → Type 0
RefusesEdInfo derives secret oid context =
    (known : Option EdAlgorithm) × IsEdOf oid known × RefusesEdKey derives known secret context

-- why a container is refused
abbrev pub RefusesKept : Derivation → PrivateKeyValue → PrivateKeyInfo → KeyError → Type 0
RefusesKept derives (values.Rsa rsa) info e = e ≡ errors.Memory
RefusesKept derives (values.Ec read) info e =
    IsEcRefusal
    (RefusesEcInfo derives read (kept_option (parameters_of info.private_key_algorithm))) e
RefusesKept derives (values.Ed secret) info e =
    IsEdRefusal
    (RefusesEdInfo derives secret (identifier_contents (oid_of info.private_key_algorithm))) e

-- A key by the encoding of its PrivateKeyInfo.
pub record IsPkcs8Key (derives : Derivation) (octets : List ℕ) (key : PrivateKey) : Type 0 where
  pub info : PrivateKeyInfo
  pub within : IsWithin IsPrivateKeyInfo octets info
  pub kept : IsKeptKey derives info.private_key info key

-- The octets don't encode a PrivateKeyInfo, or the one that they encode is refused.
abbrev pub RefusesPkcs8 : Derivation → List ℕ → KeyError → Type 0
RefusesPkcs8 derives octets e =
    IsUnreadKey elements.PrivateKeyInfo (RefusesOctets IsPrivateKeyInfo octets) e
    ⊎ ((info : PrivateKeyInfo) × IsWithin IsPrivateKeyInfo octets info
    × RefusesKept derives info.private_key info e)
