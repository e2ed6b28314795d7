-- EC private keys: their containers, keys from components, and keys read from an ECPrivateKey.
use Rattle.std.specs.Prelude.{◌≡◌, ⊤, ℕ, List, ◌∷◌, ◌++◌, Option, Some, None}
use Rattle.std.specs.Option.{option_map}
use Rattle.der_core.specs.DerElement.{DerElement}
use Rattle.der_core.specs.BorrowedOption.{kept_option}
use Rattle.der_core.specs.Refusals.{RefusesOctets}
use Rattle.der_core.specs.Structure.{IsWithin}
use Rattle.asn1_types.specs.Elements.{object_identifier}
use Rattle.asn1_types.specs.Values.{identifier_contents, bit_string_contents}
use Rattle.asn1_types.specs.declared.bit_string.BitString.{BitString}
use Rattle.asn1_types.specs.declared.oid.ObjectIdentifier.{ObjectIdentifier}
use Rattle.asn1_types.specs.declared.oids.TheConstants.{EC_PUBLIC_KEY}
use Rattle.key_types.specs.ECPrivateKey.{ec_private_key}
use Rattle.key_types.specs.declared.ec_private_key.ECPrivateKey.{ECPrivateKey}
use Rattle.key_types.specs.AlgorithmIdentifier.{oid_of, parameters_of}
use Rattle.key_core.specs.DerivedKeys.{Derivation, IsCurveOf, IsPointOf, RefusesPoint, whole_bits}
use Rattle.key_core.specs.EcCurve.{curve_identifier}
use Rattle.key_core.specs.KeyRefusals.{IsUnreadKey}
use Rattle.key_core.specs.MadeKeys.{AreCoordinates}
use Rattle.key_core.specs.declared.ec_curve.EcCurve.{EcCurve}
use Rattle.key_core.specs.declared.element.Element.TheVariants as elements
use Rattle.key_core.specs.declared.error.KeyContext.{KeyContext}
use Rattle.key_core.specs.declared.error.KeyContext.TheVariants as contexts
use Rattle.key_core.specs.declared.error.KeyError.{KeyError}
use Rattle.key_core.specs.declared.error.KeyError.TheVariants as errors
use Rattle.key_core.specs.declared.private_key.PrivateKey.{PrivateKey}
use Rattle.key_core.specs.declared.private_key_info.PrivateKeyInfo.{PrivateKeyInfo}
use Rattle.key_core.specs.declared.private_key_value.PrivateKeyValue.TheVariants as values
use Rattle.key_core.specs.declared.private_key_version.PrivateKeyVersion.TheVariants as versions

-- The container of an EC key (RFC 5480 2.1.1): the parameters name the curve, and it has neither
-- attributes nor a public key.
pub record IsEcContainer (curve : ObjectIdentifier) (key : ECPrivateKey)
    (info : PrivateKeyInfo) : Type 0 where
  pub version : info.version ≡ versions.V1
  pub identifier : identifier_contents (oid_of info.private_key_algorithm) ≡ EC_PUBLIC_KEY.now
  pub parameters : kept_option (parameters_of info.private_key_algorithm)
      ≡ Some (object_identifier curve)
  pub is : info.private_key ≡ values.Ec key
  pub attributes : info.attributes ≡ None
  pub public_key : info.public_key ≡ None

-- ---- from components

-- the ECPrivateKey with a curve, a secret and a point, if any
abbrev pub given : ObjectIdentifier → List ℕ → Option BitString → ECPrivateKey
given curve secret point =
    record { private_key = secret; parameters = Some curve; public_key = point }

-- A key with these octets as its secret and, if given, its point: its ECPrivateKey names the curve
-- and has the point.
pub record IsGivenCurveKey (curve : ObjectIdentifier) (secret : List ℕ) (point : Option (List ℕ))
    (key : PrivateKey) : Type 0 where
  pub container : IsEcContainer curve (given curve secret key.public_key) key.info
  pub point_is : option_map bit_string_contents key.public_key ≡ option_map whole_bits point

-- A key on a supported curve, whose point is 04, then its coordinates (SEC 1 2.3.3).
pub record IsGivenPointKey (curve : EcCurve) (secret x y : List ℕ) (key : PrivateKey) : Type 0 where
  pub oid : ObjectIdentifier
  pub named : identifier_contents oid ≡ curve_identifier curve
  pub given : IsGivenCurveKey oid secret (Some (0x04 ∷ x ++ y)) key
  pub sized : AreCoordinates curve x y

-- ---- read

-- the element is the ECPrivateKey
abbrev pub IsECPrivateKey : DerElement → ECPrivateKey → Type 0
IsECPrivateKey element key = element ≡ ec_private_key key

-- The ECPrivateKey that is written for one that was read: it names the curve if that one named a
-- curve. A derived point isn't in it.
abbrev pub anew : ObjectIdentifier → ECPrivateKey → ECPrivateKey
anew curve read = record {
  private_key = read.private_key;
  parameters = option_map (λ _. curve) read.parameters;
  public_key = read.public_key;
}

-- The key of an ECPrivateKey on this curve.
pub record IsCurveKey (derives : Derivation) (curve : ObjectIdentifier) (read : ECPrivateKey)
    (key : PrivateKey) : Type 0 where
  pub known : Option EcCurve
  pub named : IsCurveOf (identifier_contents curve) known
  pub container : IsEcContainer curve (anew curve read) key.info
  pub point : IsPointOf derives known read.private_key read.public_key key.public_key

-- why there is no such key
abbrev pub RefusesCurveKey : Derivation → ObjectIdentifier → ECPrivateKey → KeyContext → Type 0
RefusesCurveKey derives curve read context =
    (known : Option EcCurve) × IsCurveOf (identifier_contents curve) known
    × RefusesPoint derives known read.private_key read.public_key context

-- The key of the encoding of an ECPrivateKey (RFC 5915 3) on this curve, whatever curve it names.
pub record IsSec1KeyOn (derives : Derivation) (curve : ObjectIdentifier) (octets : List ℕ)
    (key : PrivateKey) : Type 0 where
  pub read : ECPrivateKey
  pub within : IsWithin IsECPrivateKey octets read
  pub is : IsCurveKey derives curve read key

-- The same on the curve that the ECPrivateKey names.
pub record IsSec1Key (derives : Derivation) (octets : List ℕ) (key : PrivateKey) : Type 0 where
  pub curve : ObjectIdentifier
  pub read : ECPrivateKey
  pub within : IsWithin IsECPrivateKey octets read
  pub present : read.parameters ≡ Some curve
  pub is : IsCurveKey derives curve read key

-- The same on a supported curve.
pub record IsSec1KeyOnKnown (derives : Derivation) (curve : EcCurve) (octets : List ℕ)
    (key : PrivateKey) : Type 0 where
  pub oid : ObjectIdentifier
  pub named : identifier_contents oid ≡ curve_identifier curve
  pub is : IsSec1KeyOn derives oid octets key

-- The octets don't encode an ECPrivateKey, or the one that they encode is refused with a context.
abbrev pub RefusesSec1 : (ECPrivateKey → KeyContext → Type 0) → List ℕ → KeyError → Type 0
RefusesSec1 Refuses octets (errors.Asn1Serialization element source) = ⊥
RefusesSec1 Refuses octets (errors.Asn1Deserialization element source) =
    IsUnreadKey elements.EcPrivateKey (RefusesOctets IsECPrivateKey octets)
    (errors.Asn1Deserialization element source)
RefusesSec1 Refuses octets (errors.Rsa context) = ⊥
RefusesSec1 Refuses octets (errors.EC context) =
    (read : ECPrivateKey) × IsWithin IsECPrivateKey octets read × Refuses read context
RefusesSec1 Refuses octets (errors.ED context) = ⊥
RefusesSec1 Refuses octets (errors.UnsupportedAlgorithm kind) = ⊥
RefusesSec1 Refuses octets errors.Memory = ⊤

-- it names no curve, or there is no key on the curve that it names
abbrev pub RefusesOwnCurve : Derivation → Option ObjectIdentifier → ECPrivateKey → KeyContext
    → Type 0
RefusesOwnCurve derives None read context = context ≡ contexts.CurveMissing
RefusesOwnCurve derives (Some curve) read context = RefusesCurveKey derives curve read context

-- the same on a supported curve
abbrev pub RefusesKnownCurve : Derivation → EcCurve → ECPrivateKey → KeyContext → Type 0
RefusesKnownCurve derives curve read context =
    RefusesPoint derives (Some curve) read.private_key read.public_key context
