-- Curve public keys that a scheme derives from secrets.
use Rattle.std.specs.Prelude.{◌≡◌, ◌≢◌, ⊤, ℕ, List, ◌∷◌, length, Option, Some, None}
use Rattle.std.specs.Option.{option_map}
use Rattle.asn1_types.specs.Values.{bit_string_contents}
use Rattle.asn1_types.specs.declared.bit_string.BitString.{BitString}
use Rattle.sig_core.specs.declared.algorithm.SchemeKind.{SchemeKind}
use Rattle.sig_core.specs.declared.algorithm.SchemeKind.TheVariants as schemes
use Rattle.key_core.specs.EcCurve.{curve_identifier, field_size}
use Rattle.key_core.specs.EdAlgorithm.{ed_identifier}
use Rattle.key_core.specs.declared.ec_curve.EcCurve.{EcCurve}
use Rattle.key_core.specs.declared.ec_curve.EcCurve.TheVariants as curves
use Rattle.key_core.specs.declared.ed_algorithm.EdAlgorithm.{EdAlgorithm}
use Rattle.key_core.specs.declared.ed_algorithm.EdAlgorithm.TheVariants as algorithms
use Rattle.key_core.specs.declared.error.KeyContext.{KeyContext}
use Rattle.key_core.specs.declared.error.KeyContext.TheVariants as contexts
use Rattle.key_core.specs.declared.error.KeyError.{KeyError}
use Rattle.key_core.specs.declared.error.KeyError.TheVariants as errors

-- what a scheme derives from the secrets of a kind, if it derives a key
abbrev pub Derivation : Type 0
Derivation = SchemeKind → List ℕ → Option (List ℕ)

-- the kind of a curve's secrets
abbrev pub curve_kind : EcCurve → SchemeKind
curve_kind curves.NistP256 = schemes.P256
curve_kind curves.NistP384 = schemes.P384
curve_kind curves.NistP521 = schemes.P521

-- the kind of the secrets of a Curve25519 algorithm
abbrev pub ed_kind : EdAlgorithm → SchemeKind
ed_kind algorithms.Ed25519 = schemes.Ed25519
ed_kind algorithms.X25519 = schemes.X25519

-- the supported curve with this OID, if any
abbrev pub IsCurveOf : List ℕ → Option EcCurve → Type 0
IsCurveOf oid (Some curve) = curve_identifier curve ≡ oid
IsCurveOf oid None = (curve : EcCurve) → curve_identifier curve ≢ oid

-- the supported algorithm with this OID, if any
abbrev pub IsEdOf : List ℕ → Option EdAlgorithm → Type 0
IsEdOf oid (Some algorithm) = ed_identifier algorithm ≡ oid
IsEdOf oid None = (algorithm : EdAlgorithm) → ed_identifier algorithm ≢ oid

-- the contents octets of a BIT STRING without unused bits (X.690 8.6.2)
abbrev pub whole_bits : List ℕ → List ℕ
whole_bits octets = 0 ∷ octets

-- The public key is derived from a secret of this many octets.
pub record IsDerived (derives : Derivation) (kind : SchemeKind) (size : ℕ) (secret : List ℕ)
    (public_key : Option BitString) : Type 0 where
  pub sized : length secret ≡ size
  pub key : List ℕ
  pub derived : derives kind secret ≡ Some key
  pub is : option_map bit_string_contents public_key ≡ Some (whole_bits key)

-- why none is derived: the secret has another size, or else the scheme has no key for it
abbrev pub RefusesDerived : Derivation → SchemeKind → ℕ → List ℕ → KeyContext → Type 0
RefusesDerived derives kind size secret contexts.NotRsa = ⊥
RefusesDerived derives kind size secret contexts.NotEc = ⊥
RefusesDerived derives kind size secret contexts.NotEd = ⊥
RefusesDerived derives kind size secret contexts.CurveParameters = ⊥
RefusesDerived derives kind size secret contexts.CurveMissing = ⊥
RefusesDerived derives kind size secret contexts.CoordinateSize = ⊥
RefusesDerived derives kind size secret contexts.SecretSize = length secret ≢ size
RefusesDerived derives kind size secret contexts.UnsupportedCurve = ⊥
RefusesDerived derives kind size secret contexts.UnsupportedEd = ⊥
RefusesDerived derives kind size secret contexts.PublicKeyMissing = ⊥
RefusesDerived derives kind size secret contexts.SchemeRefused =
    (length secret ≡ size) × (derives kind secret ≡ None)

-- The public key of an EC secret, beside which a point may have been read: that point, else the
-- derived one if the curve is supported, else none.
abbrev pub IsPointOf : Derivation → Option EcCurve → List ℕ → Option BitString → Option BitString
    → Type 0
IsPointOf derives known secret (Some read) public_key = public_key ≡ Some read
IsPointOf derives (Some curve) secret None public_key =
    IsDerived derives (curve_kind curve) (field_size curve) secret public_key
IsPointOf derives None secret None public_key = public_key ≡ None

-- why there is no point: none was read, the curve is supported, and the secret has another size or
-- the scheme derives no key from it
abbrev pub RefusesPoint : Derivation → Option EcCurve → List ℕ → Option BitString → KeyContext
    → Type 0
RefusesPoint derives known secret (Some read) context = ⊥
RefusesPoint derives (Some curve) secret None context =
    RefusesDerived derives (curve_kind curve) (field_size curve) secret context
RefusesPoint derives None secret None context = ⊥

-- The public key of a Curve25519 or Curve448 secret: the derived one for Curve25519, whose secrets
-- have 32 octets (RFC 8032 5.1.5, RFC 7748 5), else none.
abbrev pub IsEdKeyOf : Derivation → Option EdAlgorithm → List ℕ → Option BitString → Type 0
IsEdKeyOf derives (Some algorithm) secret public_key =
    IsDerived derives (ed_kind algorithm) 32 secret public_key
IsEdKeyOf derives None secret public_key = public_key ≡ None

-- why there is no public key: the algorithm is supported, and the secret has another size or the
-- scheme derives no key from it
abbrev pub RefusesEdKey : Derivation → Option EdAlgorithm → List ℕ → KeyContext → Type 0
RefusesEdKey derives (Some algorithm) secret context =
    RefusesDerived derives (ed_kind algorithm) 32 secret context
RefusesEdKey derives None secret context = ⊥

-- the error is `EC` with a context that refuses the key; out of memory is possible at any time
abbrev pub IsEcRefusal : (KeyContext → Type 0) → KeyError → Type 0
IsEcRefusal Refuses (errors.Asn1Serialization element source) = ⊥
IsEcRefusal Refuses (errors.Asn1Deserialization element source) = ⊥
IsEcRefusal Refuses (errors.Rsa context) = ⊥
IsEcRefusal Refuses (errors.EC context) = Refuses context
IsEcRefusal Refuses (errors.ED context) = ⊥
IsEcRefusal Refuses (errors.UnsupportedAlgorithm kind) = ⊥
IsEcRefusal Refuses errors.Memory = ⊤

-- the same for `ED`
abbrev pub IsEdRefusal : (KeyContext → Type 0) → KeyError → Type 0
IsEdRefusal Refuses (errors.Asn1Serialization element source) = ⊥
IsEdRefusal Refuses (errors.Asn1Deserialization element source) = ⊥
IsEdRefusal Refuses (errors.Rsa context) = ⊥
IsEdRefusal Refuses (errors.EC context) = ⊥
IsEdRefusal Refuses (errors.ED context) = Refuses context
IsEdRefusal Refuses (errors.UnsupportedAlgorithm kind) = ⊥
IsEdRefusal Refuses errors.Memory = ⊤
