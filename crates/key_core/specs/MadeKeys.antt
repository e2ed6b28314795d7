-- Public keys from components.
use Rattle.std.specs.Prelude.{◌≡◌, ⊤, ℕ, List, ◌∷◌, ◌++◌, length, Some, None, IsTrue}
use Rattle.der_core.specs.Elements.{null}
use Rattle.der_core.specs.BorrowedOption.{kept_option}
use Rattle.asn1_types.specs.Elements.{object_identifier}
use Rattle.asn1_types.specs.Integer.{IsUnsignedInteger, number_of}
use Rattle.asn1_types.specs.Values.{identifier_contents, integer_contents, payload_of, unused_of}
use Rattle.asn1_types.specs.declared.bit_string.BitString.{BitString}
use Rattle.asn1_types.specs.declared.oid.ObjectIdentifier.{ObjectIdentifier}
use Rattle.asn1_types.specs.declared.oids.TheConstants.{RSA_ENCRYPTION, EC_PUBLIC_KEY}
use Rattle.key_types.specs.AlgorithmIdentifier.{oid_of, parameters_of}
use Rattle.key_types.specs.KeyKind.{names_kind}
use Rattle.key_types.specs.declared.key_kind.KeyKind.TheVariants as kinds
use Rattle.key_types.specs.declared.key_info.SubjectPublicKeyInfo.{SubjectPublicKeyInfo}
use Rattle.key_types.specs.declared.public_key.RsaPublicKey.{RsaPublicKey}
use Rattle.key_types.specs.declared.subject_key.SubjectKey.TheVariants as keys
use Rattle.key_core.specs.EcCurve.{curve_identifier, field_size}
use Rattle.key_core.specs.declared.ec_curve.EcCurve.{EcCurve}
use Rattle.key_core.specs.declared.error.KeyContext.TheVariants as contexts
use Rattle.key_core.specs.declared.error.KeyError.{KeyError}
use Rattle.key_core.specs.declared.error.KeyError.TheVariants as errors

-- An RSA key with its algorithm (RFC 3279 2.3.1): the parameters are NULL.
pub record IsRsaInfo (key : RsaPublicKey) (info : SubjectPublicKeyInfo) : Type 0 where
  pub is : info.subject_public_key ≡ keys.Rsa key
  pub identifier : identifier_contents (oid_of info.algorithm) ≡ RSA_ENCRYPTION.now
  pub parameters : kept_option (parameters_of info.algorithm) ≡ Some null

-- An RSA key by its two numbers.
pub record IsRsaKey (modulus exponent : List ℕ) (info : SubjectPublicKeyInfo) : Type 0 where
  pub key : RsaPublicKey
  pub rsa : IsRsaInfo key info
  pub modulus_is : IsUnsignedInteger (number_of modulus) (integer_contents key.modulus)
  pub exponent_is : IsUnsignedInteger (number_of exponent) (integer_contents key.public_exponent)

-- A point on a named curve by its octets (RFC 5480 2.1.1, 2.2): the parameters are the OID of the
-- curve, and no bits are unused.
pub record IsEcKey (curve : ObjectIdentifier) (octets : List ℕ)
    (info : SubjectPublicKeyInfo) : Type 0 where
  pub key : BitString
  pub is : info.subject_public_key ≡ keys.Ec key
  pub identifier : identifier_contents (oid_of info.algorithm) ≡ EC_PUBLIC_KEY.now
  pub parameters : kept_option (parameters_of info.algorithm) ≡ Some (object_identifier curve)
  pub whole : unused_of key ≡ 0
  pub payload : payload_of key ≡ octets

-- the coordinates have the size of the field
abbrev pub AreCoordinates : EcCurve → List ℕ → List ℕ → Type 0
AreCoordinates curve x y = (length x ≡ field_size curve) × (length y ≡ field_size curve)

-- An uncompressed point on a supported curve by its coordinates (SEC 1 2.3.3): 04, then both of
-- them.
pub record IsPointKey (curve : EcCurve) (x y : List ℕ) (info : SubjectPublicKeyInfo) : Type 0 where
  pub oid : ObjectIdentifier
  pub named : identifier_contents oid ≡ curve_identifier curve
  pub point : IsEcKey oid (0x04 ∷ x ++ y) info
  pub sized : AreCoordinates curve x y

-- coordinates of another size give no such point
abbrev pub RefusesCoordinates : EcCurve → List ℕ → List ℕ → KeyError → Type 0
RefusesCoordinates curve x y (errors.Asn1Serialization element source) = ⊥
RefusesCoordinates curve x y (errors.Asn1Deserialization element source) = ⊥
RefusesCoordinates curve x y (errors.Rsa context) = ⊥
RefusesCoordinates curve x y (errors.EC context) =
    (context ≡ contexts.CoordinateSize) × (AreCoordinates curve x y → ⊥)
RefusesCoordinates curve x y (errors.ED context) = ⊥
RefusesCoordinates curve x y (errors.UnsupportedAlgorithm kind) = ⊥
RefusesCoordinates curve x y errors.Memory = ⊤

-- A Curve25519 or Curve448 key by its octets (RFC 8410 3, 4): there are no parameters, and no bits
-- are unused.
pub record IsEdKey (algorithm : ObjectIdentifier) (octets : List ℕ)
    (info : SubjectPublicKeyInfo) : Type 0 where
  pub key : BitString
  pub is : info.subject_public_key ≡ keys.Ed key
  pub identifier : oid_of info.algorithm ≡ algorithm
  pub parameters : parameters_of info.algorithm ≡ None
  pub whole : unused_of key ≡ 0
  pub payload : payload_of key ≡ octets

-- the OID of a Curve25519 or Curve448 algorithm
abbrev pub NamesEd : ObjectIdentifier → Type 0
NamesEd algorithm = IsTrue (names_kind kinds.Ed (identifier_contents algorithm))

-- any other OID gives no such key
abbrev pub RefusesEd : ObjectIdentifier → KeyError → Type 0
RefusesEd algorithm (errors.Asn1Serialization element source) = ⊥
RefusesEd algorithm (errors.Asn1Deserialization element source) = ⊥
RefusesEd algorithm (errors.Rsa context) = ⊥
RefusesEd algorithm (errors.EC context) = ⊥
RefusesEd algorithm (errors.ED context) =
    (context ≡ contexts.UnsupportedEd) × (NamesEd algorithm → ⊥)
RefusesEd algorithm (errors.UnsupportedAlgorithm kind) = ⊥
RefusesEd algorithm errors.Memory = ⊤
