-- What a private key signs, and why it doesn't; which public keys belong to it.
use Rattle.std.specs.Prelude.{◌≡◌, ◌≢◌, ℕ, List, [], ◌∷◌, ◌++◌, length, Bool, false, Some, None, ◌⊎◌}
use Rattle.der_core.specs.Rules.{Rule}
use Rattle.der_core.specs.declared.error.DerError.{DerError}
use Rattle.asn1_types.specs.Values.{identifier_contents, payload_of}
use Rattle.asn1_types.specs.declared.bit_string.BitString.{BitString}
use Rattle.key_types.specs.AlgorithmIdentifier.{oid_of}
use Rattle.key_types.specs.declared.key_info.SubjectPublicKeyInfo.{SubjectPublicKeyInfo}
use Rattle.key_types.specs.declared.key_kind.KeyKind.TheVariants as kinds
use Rattle.key_types.specs.declared.subject_key.SubjectKey.TheVariants as keys
use Rattle.key_types.specs.RsaPrivateKey.{rsa_private_key}
use Rattle.key_types.specs.declared.rsa_private_key.RsaPrivateKey.{RsaPrivateKey}
use Rattle.key_types.specs.declared.ec_private_key.ECPrivateKey.{ECPrivateKey}
use Rattle.sig_core.specs.declared.algorithm.SchemeKind.{SchemeKind}
use Rattle.sig_core.specs.declared.algorithm.SchemeKind.TheVariants as schemes
use Rattle.sig_core.specs.declared.algorithm.SigAlg.{SigAlg}
use Rattle.sig_core.specs.declared.algorithm.SigAlg.TheVariants as algs
use Rattle.sig_core.specs.declared.hash.HashAlgorithm.{HashAlgorithm}
use Rattle.key_core.specs.DerivedKeys.{curve_kind, ed_kind}
use Rattle.key_core.specs.EcCurve.{field_size}
use Rattle.key_core.specs.EdAlgorithm.{ed_identifier}
use Rattle.key_core.specs.KeyRefusals.{CantBeWritten}
use Rattle.key_core.specs.Pkcs1.{IsPkcs1Of}
use Rattle.key_core.specs.PrivateKeyValue.{private_kind}
use Rattle.key_core.specs.PrivatePkcs1.{IsPkcs1OfPrivate}
use Rattle.key_core.specs.SchemeNames.{rsa_alg, curve_for, ecdsa_alg}
use Rattle.key_core.specs.Verifying.{Judge, NamesCurve, IsPointOn, IsOfEd}
use Rattle.key_core.specs.declared.ec_curve.EcCurve.{EcCurve}
use Rattle.key_core.specs.declared.ed_algorithm.EdAlgorithm.{EdAlgorithm}
use Rattle.key_core.specs.declared.ed_algorithm.EdAlgorithm.TheVariants as ed
use Rattle.key_core.specs.declared.element.Element.TheVariants as elements
use Rattle.key_core.specs.declared.error.KeyContext.TheVariants as key_contexts
use Rattle.key_core.specs.declared.error.KeyError.TheVariants as key_errors
use Rattle.key_core.specs.declared.private_key.PrivateKey.{PrivateKey}
use Rattle.key_core.specs.declared.private_key_value.PrivateKeyValue.TheVariants as values
use Rattle.key_core.specs.declared.signature_algorithm.SignatureAlgorithm.{SignatureAlgorithm}
use Rattle.key_core.specs.declared.signature_algorithm.SignatureAlgorithm.TheVariants.{RsaPkcs1v15, Ecdsa, Ed25519}
use Rattle.key_core.specs.declared.signature_error.SigContext.TheVariants as contexts
use Rattle.key_core.specs.declared.signature_error.SignatureError.{SignatureError}
use Rattle.key_core.specs.declared.signature_error.SignatureError.TheVariants as errors
use Rattle.key_core.specs.declared.signature_error.Unsupported.TheVariants as unsupported

-- the algorithm of the private key names this curve
abbrev pub HasCurveOf : PrivateKey → EcCurve → Type 0
HasCurveOf key curve = NamesCurve key.info.private_key_algorithm curve

-- the algorithm of the private key has the OID of this Curve25519 algorithm (RFC 8410 3)
abbrev pub HasEdOf : PrivateKey → EdAlgorithm → Type 0
HasEdOf key algorithm =
    identifier_contents (oid_of key.info.private_key_algorithm) ≡ ed_identifier algorithm

-- The octets are the secret of a key on this curve, of the size of its field (SEC 1 3.2.1).
pub record IsSecretOn (curve : EcCurve) (key : PrivateKey) (secret : List ℕ) : Type 0 where
  pub ec : ECPrivateKey
  pub is : key.info.private_key ≡ values.Ec ec
  pub on : HasCurveOf key curve
  pub octets : secret ≡ ec.private_key
  pub size : length secret ≡ field_size curve

-- The octets are the secret of an Ed25519 key: it has 32, and so has the public key (RFC 8032
-- 5.1.5).
pub record IsEd25519Secret (key : PrivateKey) (secret : List ℕ) : Type 0 where
  pub is : key.info.private_key ≡ values.Ed secret
  pub of : HasEdOf key ed.Ed25519
  pub size : length secret ≡ 32
  pub bits : BitString
  pub public_key : key.public_key ≡ Some bits
  pub public_size : length (payload_of bits) ≡ 32

-- The private key fits the algorithm, which a scheme knows by this name, with this secret.
abbrev pub FitsSecret : SignatureAlgorithm → PrivateKey → SigAlg → List ℕ → Type 0
FitsSecret (RsaPkcs1v15 hash) key alg secret =
    (alg ≡ rsa_alg hash) × IsPkcs1OfPrivate key.info.private_key secret
FitsSecret (Ecdsa hash) key alg secret =
    (curve : EcCurve) × (curve_for hash ≡ Some curve) × (alg ≡ ecdsa_alg curve)
    × IsSecretOn curve key secret
FitsSecret Ed25519 key alg secret = (alg ≡ algs.Ed25519) × IsEd25519Secret key secret

-- Whether a scheme signs, given an algorithm, a secret and a message.
abbrev pub Signs : Type 0
Signs = SigAlg → List ℕ → List ℕ → Bool

-- Whether key bytes and a secret belong together for a scheme, given a kind, the key bytes and the
-- secret.
abbrev pub Pair : Type 1
Pair = SchemeKind → List ℕ → List ℕ → Type 0

-- What a scheme does: its verdicts, what it signs, and which keys belong together.
pub record KeyArithmetic : Type 1 where
  pub judge : Judge
  pub signs : Signs
  pub pair : Pair

-- a scheme that does this
abbrev pub arithmetic : Judge → Signs → Pair → KeyArithmetic
arithmetic judge signs pair = record { judge = judge; signs = signs; pair = pair }

-- The private key fits the algorithm, and this is whether the scheme signs the message with it.
pub record IsAsked (signs : Signs) (algorithm : SignatureAlgorithm) (key : PrivateKey)
    (msg : List ℕ) (holds : Bool) : Type 0 where
  pub alg : SigAlg
  pub secret : List ℕ
  pub fits : FitsSecret algorithm key alg secret
  pub signed : signs alg secret msg ≡ holds

-- ---- the public keys of a private key

-- Both are RSA keys, the public one can be written, and the scheme pairs them.
pub record IsRsaPair (pair : Pair) (key : PrivateKey) (info : SubjectPublicKeyInfo) : Type 0 where
  pub bytes : List ℕ
  pub secret : List ℕ
  pub public : IsPkcs1Of info.subject_public_key bytes
  pub private : IsPkcs1OfPrivate key.info.private_key secret
  pub paired : pair schemes.Rsa bytes secret

-- Both keys are on this curve, and the scheme pairs them.
pub record IsEcPair (pair : Pair) (curve : EcCurve) (key : PrivateKey)
    (info : SubjectPublicKeyInfo) : Type 0 where
  pub ec : ECPrivateKey
  pub private : key.info.private_key ≡ values.Ec ec
  pub on : HasCurveOf key curve
  pub bytes : List ℕ
  pub public : IsPointOn curve info bytes
  pub paired : pair (curve_kind curve) bytes ec.private_key

-- Both keys are of this Curve25519 algorithm, an Ed25519 public key has 32 octets, and the scheme
-- pairs them.
pub record IsEdPair (pair : Pair) (algorithm : EdAlgorithm) (key : PrivateKey)
    (info : SubjectPublicKeyInfo) : Type 0 where
  pub secret : List ℕ
  pub private : key.info.private_key ≡ values.Ed secret
  pub of : HasEdOf key algorithm
  pub bits : BitString
  pub public : info.subject_public_key ≡ keys.Ed bits
  pub also : IsOfEd info algorithm
  pub size : algorithm ≡ ed.Ed25519 → length (payload_of bits) ≡ 32
  pub paired : pair (ed_kind algorithm) (payload_of bits) secret

-- The public key belongs to the private one.
abbrev pub IsKeyPair : Pair → PrivateKey → SubjectPublicKeyInfo → Type 0
IsKeyPair pair key info =
    IsRsaPair pair key info
    ⊎ (((curve : EcCurve) × IsEcPair pair curve key info)
    ⊎ ((algorithm : EdAlgorithm) × IsEdPair pair algorithm key info))

-- ---- rules of signing, by what breaks them

-- the key is not an RSA key
abbrev pub NotRsaSecret : PrivateKey → Rule SignatureError
NotRsaSecret key e =
    (private_kind key.info.private_key ≢ kinds.Rsa)
    × (e ≡ errors.Key (key_errors.Rsa key_contexts.NotRsa))

-- the RSAPrivateKey of the key has no encoding
pub record UnwritableSecret (key : PrivateKey) (e : SignatureError) : Type 0 where
  pub rsa : RsaPrivateKey
  pub is : key.info.private_key ≡ values.Rsa rsa
  pub source : DerError
  pub cause : CantBeWritten (rsa_private_key rsa) source
  pub error : e ≡ errors.Key (key_errors.Asn1Serialization elements.RsaPrivateKey source)

-- the key is not an EC key
abbrev pub NotEcSecret : PrivateKey → Rule SignatureError
NotEcSecret key e =
    (private_kind key.info.private_key ≢ kinds.Ec)
    × (e ≡ errors.Key (key_errors.EC key_contexts.NotEc))

-- the parameters of the key name no supported curve
abbrev pub UnknownCurveOf : PrivateKey → Rule SignatureError
UnknownCurveOf key e =
    ((curve : EcCurve) → HasCurveOf key curve → ⊥)
    × (e ≡ errors.Key (key_errors.EC key_contexts.UnsupportedCurve))

-- keys on the curve don't sign the digest
abbrev pub UnpairedSecret : PrivateKey → HashAlgorithm → Rule SignatureError
UnpairedSecret key hash e =
    (curve : EcCurve) × HasCurveOf key curve × (curve_for hash ≢ Some curve)
    × (e ≡ errors.UnsupportedAlgorithm (unsupported.Pairing curve hash))

-- the secret hasn't the size of the curve's field
abbrev pub WrongSecretSize : PrivateKey → Rule SignatureError
WrongSecretSize key e =
    (curve : EcCurve) × (ec : ECPrivateKey) × HasCurveOf key curve
    × (key.info.private_key ≡ values.Ec ec) × (length ec.private_key ≢ field_size curve)
    × (e ≡ errors.Key (key_errors.EC key_contexts.SecretSize))

-- the key is not a Curve25519 or Curve448 key
abbrev pub NotEdSecret : PrivateKey → Rule SignatureError
NotEdSecret key e =
    (private_kind key.info.private_key ≢ kinds.Ed)
    × (e ≡ errors.Key (key_errors.ED key_contexts.NotEd))

-- no public key is beside the container
abbrev pub NoPublicKey : PrivateKey → Rule SignatureError
NoPublicKey key e =
    (key.public_key ≡ None) × (e ≡ errors.Key (key_errors.ED key_contexts.PublicKeyMissing))

-- the key is an X25519 key, which signs nothing
abbrev pub ForAgreementOnly : PrivateKey → Rule SignatureError
ForAgreementOnly key e = HasEdOf key ed.X25519 × (e ≡ errors.Ed contexts.NotForSigning)

-- the key isn't an Ed25519 key
abbrev pub NotEd25519Secret : PrivateKey → Rule SignatureError
NotEd25519Secret key e =
    (HasEdOf key ed.Ed25519 → ⊥) × (e ≡ errors.Key (key_errors.ED key_contexts.UnsupportedEd))

-- the public key or the secret hasn't 32 octets
abbrev pub WrongEdSize : PrivateKey → Rule SignatureError
WrongEdSize key e =
    (bits : BitString) × (secret : List ℕ) × (key.public_key ≡ Some bits)
    × (key.info.private_key ≡ values.Ed secret)
    × ((length (payload_of bits) ≡ 32) × (length secret ≡ 32) → ⊥)
    × (e ≡ errors.Ed contexts.KeySize)

-- the error if the scheme doesn't sign
abbrev pub scheme_refused : SignatureAlgorithm → SignatureError
scheme_refused (RsaPkcs1v15 hash) = errors.Rsa contexts.SchemeRefused
scheme_refused (Ecdsa hash) = errors.Ec contexts.SchemeRefused
scheme_refused Ed25519 = errors.Ed contexts.SchemeRefused

-- the scheme refuses to sign
abbrev pub Unsigned : Signs → SignatureAlgorithm → PrivateKey → List ℕ → Rule SignatureError
Unsigned signs algorithm key msg e =
    IsAsked signs algorithm key msg false × (e ≡ scheme_refused algorithm)

-- The rules for the key, in their order.
abbrev pub secret_rules : SignatureAlgorithm → PrivateKey → List (Rule SignatureError)
secret_rules (RsaPkcs1v15 hash) key = NotRsaSecret key ∷ []
secret_rules (Ecdsa hash) key =
    NotEcSecret key ∷ UnknownCurveOf key ∷ UnpairedSecret key hash ∷ WrongSecretSize key ∷ []
secret_rules Ed25519 key =
    NotEdSecret key ∷ NoPublicKey key ∷ ForAgreementOnly key ∷ NotEd25519Secret key ∷
    WrongEdSize key ∷ []

-- The rules of signing, in their order: for the key, for its writing, for what the scheme signs.
abbrev pub sign_rules : Signs → SignatureAlgorithm → PrivateKey → List ℕ
    → List (Rule SignatureError)
sign_rules signs algorithm key msg =
    secret_rules algorithm key ++ UnwritableSecret key ∷ Unsigned signs algorithm key msg ∷ []
