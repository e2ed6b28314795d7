-- When a scheme accepts a signature by a key, and why it doesn't.
use Rattle.std.specs.Prelude.{◌≡◌, ◌≢◌, ℕ, List, [], ◌∷◌, ◌++◌, length, Some, None, Result, Err, MatchResult}
use Rattle.asn1_types.specs.Elements.{object_identifier_of}
use Rattle.der_core.specs.BorrowedOption.{kept_option}
use Rattle.der_core.specs.Rules.{Rule, IsFirstBroken}
use Rattle.der_core.specs.declared.error.DerError.{DerError}
use Rattle.asn1_types.specs.Values.{identifier_contents, payload_of}
use Rattle.asn1_types.specs.declared.bit_string.BitString.{BitString}
use Rattle.key_types.specs.AlgorithmIdentifier.{oid_of, parameters_of}
use Rattle.key_types.specs.RsaPublicKey.{rsa_public_key}
use Rattle.key_types.specs.SubjectKey.{kind_of_key}
use Rattle.key_types.specs.declared.algorithm.AlgorithmIdentifier.{AlgorithmIdentifier}
use Rattle.key_types.specs.declared.key_info.SubjectPublicKeyInfo.{SubjectPublicKeyInfo}
use Rattle.key_types.specs.declared.key_kind.KeyKind.TheVariants as kinds
use Rattle.key_types.specs.declared.public_key.RsaPublicKey.{RsaPublicKey}
use Rattle.key_types.specs.declared.subject_key.SubjectKey.TheVariants as keys
use Rattle.sig_core.specs.declared.algorithm.SigAlg.{SigAlg}
use Rattle.sig_core.specs.declared.algorithm.SigAlg.TheVariants as algs
use Rattle.sig_core.specs.declared.hash.HashAlgorithm.{HashAlgorithm}
use Rattle.sig_core.specs.declared.scheme.Verdict.{Verdict}
use Rattle.sig_core.specs.declared.scheme.Verdict.TheVariants as verdicts
use Rattle.key_core.specs.EcCurve.{curve_identifier}
use Rattle.key_core.specs.EdAlgorithm.{ed_identifier}
use Rattle.key_core.specs.KeyRefusals.{CantBeWritten}
use Rattle.key_core.specs.Pkcs1.{IsPkcs1Of}
use Rattle.key_core.specs.SchemeNames.{rsa_alg, curve_for, ecdsa_alg}
use Rattle.key_core.specs.SignatureRules.{RefusesSignatureBy}
use Rattle.key_core.specs.declared.ec_curve.EcCurve.{EcCurve}
use Rattle.key_core.specs.declared.ed_algorithm.EdAlgorithm.{EdAlgorithm}
use Rattle.key_core.specs.declared.ed_algorithm.EdAlgorithm.TheVariants as ed
use Rattle.key_core.specs.declared.element.Element.TheVariants as elements
use Rattle.key_core.specs.declared.error.KeyContext.TheVariants as key_contexts
use Rattle.key_core.specs.declared.error.KeyError.TheVariants as key_errors
use Rattle.key_core.specs.declared.signature_algorithm.SignatureAlgorithm.{SignatureAlgorithm}
use Rattle.key_core.specs.declared.signature_algorithm.SignatureAlgorithm.TheVariants.{RsaPkcs1v15, Ecdsa, Ed25519}
use Rattle.key_core.specs.declared.signature_error.SigContext.TheVariants as contexts
use Rattle.key_core.specs.declared.signature_error.SignatureError.{SignatureError}
use Rattle.key_core.specs.declared.signature_error.SignatureError.TheVariants as errors
use Rattle.key_core.specs.declared.signature_error.Unsupported.TheVariants as unsupported

-- A scheme's verdict, given an algorithm, key bytes, a message and a signature.
abbrev pub Judge : Type 0
Judge = SigAlg → List ℕ → List ℕ → List ℕ → Verdict

-- the parameters of the algorithm are the OID of this curve (RFC 5480 2.1.1)
abbrev pub NamesCurve : AlgorithmIdentifier → EcCurve → Type 0
NamesCurve algorithm curve =
    kept_option (parameters_of algorithm) ≡ Some (object_identifier_of (curve_identifier curve))

-- the algorithm of the key names this curve
abbrev pub IsOnCurve : SubjectPublicKeyInfo → EcCurve → Type 0
IsOnCurve info curve = NamesCurve info.algorithm curve

-- the algorithm of the key has the OID of this Curve25519 algorithm (RFC 8410 3)
abbrev pub IsOfEd : SubjectPublicKeyInfo → EdAlgorithm → Type 0
IsOfEd info algorithm = identifier_contents (oid_of info.algorithm) ≡ ed_identifier algorithm

-- The key is a point on this curve with these octets (RFC 5480 2.2).
pub record IsPointOn (curve : EcCurve) (info : SubjectPublicKeyInfo)
    (octets : List ℕ) : Type 0 where
  pub bits : BitString
  pub is : info.subject_public_key ≡ keys.Ec bits
  pub on : IsOnCurve info curve
  pub payload : octets ≡ payload_of bits

-- The key is an Ed25519 key with these octets: there are 32 (RFC 8032 5.1.5).
pub record IsEd25519Key (info : SubjectPublicKeyInfo) (octets : List ℕ) : Type 0 where
  pub bits : BitString
  pub is : info.subject_public_key ≡ keys.Ed bits
  pub of : IsOfEd info ed.Ed25519
  pub payload : octets ≡ payload_of bits
  pub size : length octets ≡ 32

-- The key fits the algorithm, which a scheme knows by this name, with these key bytes.
abbrev pub FitsKey : SignatureAlgorithm → SubjectPublicKeyInfo → SigAlg → List ℕ → Type 0
FitsKey (RsaPkcs1v15 hash) info alg bytes =
    (alg ≡ rsa_alg hash) × IsPkcs1Of info.subject_public_key bytes
FitsKey (Ecdsa hash) info alg bytes =
    (curve : EcCurve) × (curve_for hash ≡ Some curve) × (alg ≡ ecdsa_alg curve)
    × IsPointOn curve info bytes
FitsKey Ed25519 info alg bytes = (alg ≡ algs.Ed25519) × IsEd25519Key info bytes

-- The key fits the algorithm, and this is the verdict on the signature of the message.
pub record IsJudged (judge : Judge) (algorithm : SignatureAlgorithm) (info : SubjectPublicKeyInfo)
    (msg sig : List ℕ) (verdict : Verdict) : Type 0 where
  pub alg : SigAlg
  pub bytes : List ℕ
  pub fits : FitsKey algorithm info alg bytes
  pub judged : judge alg bytes msg sig ≡ verdict

-- The scheme accepts the signature of the message by the key.
abbrev pub Accepts : Judge → SignatureAlgorithm → SubjectPublicKeyInfo → List ℕ → List ℕ → Type 0
Accepts judge algorithm info msg sig = IsJudged judge algorithm info msg sig verdicts.Accept

-- ---- rules of verification, by what breaks them

-- the key is not an RSA key
abbrev pub NotRsa : SubjectPublicKeyInfo → Rule SignatureError
NotRsa info e =
    (kind_of_key info.subject_public_key ≢ kinds.Rsa)
    × (e ≡ errors.Key (key_errors.UnsupportedAlgorithm (kind_of_key info.subject_public_key)))

-- the RSAPublicKey of the key has no encoding
pub record Unwritable (info : SubjectPublicKeyInfo) (e : SignatureError) : Type 0 where
  pub key : RsaPublicKey
  pub is : info.subject_public_key ≡ keys.Rsa key
  pub source : DerError
  pub cause : CantBeWritten (rsa_public_key key) source
  pub error : e ≡ errors.Key (key_errors.Asn1Serialization elements.RsaPublicKey source)

-- the key is not an EC key
abbrev pub NotEc : SubjectPublicKeyInfo → Rule SignatureError
NotEc info e =
    (kind_of_key info.subject_public_key ≢ kinds.Ec)
    × (e ≡ errors.Key (key_errors.EC key_contexts.NotEc))

-- the parameters of the key name no supported curve
abbrev pub UnknownCurve : SubjectPublicKeyInfo → Rule SignatureError
UnknownCurve info e =
    ((curve : EcCurve) → IsOnCurve info curve → ⊥)
    × (e ≡ errors.Key (key_errors.EC key_contexts.UnsupportedCurve))

-- keys on no curve sign the digest
abbrev pub UnknownHash : HashAlgorithm → Rule SignatureError
UnknownHash hash e =
    (curve_for hash ≡ None) × (e ≡ errors.UnsupportedAlgorithm (unsupported.Hash hash))

-- keys on the curve don't sign the digest
abbrev pub Unpaired : SubjectPublicKeyInfo → HashAlgorithm → Rule SignatureError
Unpaired info hash e =
    (curve : EcCurve) × IsOnCurve info curve × (curve_for hash ≢ Some curve)
    × (e ≡ errors.UnsupportedAlgorithm (unsupported.Pairing curve hash))

-- the key is not a Curve25519 or Curve448 key
abbrev pub NotEd : SubjectPublicKeyInfo → Rule SignatureError
NotEd info e =
    (kind_of_key info.subject_public_key ≢ kinds.Ed)
    × (e ≡ errors.Key (key_errors.ED key_contexts.NotEd))

-- the key is an X25519 key, which verifies nothing
abbrev pub ForAgreement : SubjectPublicKeyInfo → Rule SignatureError
ForAgreement info e = IsOfEd info ed.X25519 × (e ≡ errors.Ed contexts.NotForSigning)

-- the key isn't an Ed25519 key
abbrev pub NotEd25519 : SubjectPublicKeyInfo → Rule SignatureError
NotEd25519 info e =
    (IsOfEd info ed.Ed25519 → ⊥) × (e ≡ errors.Key (key_errors.ED key_contexts.UnsupportedEd))

-- the key hasn't 32 octets
abbrev pub WrongSize : SubjectPublicKeyInfo → Rule SignatureError
WrongSize info e =
    (bits : BitString) × (info.subject_public_key ≡ keys.Ed bits) × (length (payload_of bits) ≢ 32)
    × (e ≡ errors.Ed contexts.KeySize)

-- the error for a malformed signature
abbrev pub malformed : SignatureAlgorithm → SignatureError
malformed (RsaPkcs1v15 hash) = errors.Rsa contexts.Malformed
malformed (Ecdsa hash) = errors.Ec contexts.Malformed
malformed Ed25519 = errors.Ed contexts.Malformed

-- the scheme finds the signature malformed
abbrev pub Malformed : Judge → SignatureAlgorithm → SubjectPublicKeyInfo → List ℕ → List ℕ
    → Rule SignatureError
Malformed judge algorithm info msg sig e =
    IsJudged judge algorithm info msg sig verdicts.Malformed × (e ≡ malformed algorithm)

-- the scheme rejects the signature
abbrev pub Rejected : Judge → SignatureAlgorithm → SubjectPublicKeyInfo → List ℕ → List ℕ
    → Rule SignatureError
Rejected judge algorithm info msg sig e =
    IsJudged judge algorithm info msg sig verdicts.Reject × (e ≡ errors.BadSignature)

-- The rules for the key, in their order.
abbrev pub key_rules : SignatureAlgorithm → SubjectPublicKeyInfo → List (Rule SignatureError)
key_rules (RsaPkcs1v15 hash) info = NotRsa info ∷ []
key_rules (Ecdsa hash) info =
    NotEc info ∷ UnknownCurve info ∷ UnknownHash hash ∷ Unpaired info hash ∷ []
key_rules Ed25519 info = NotEd info ∷ ForAgreement info ∷ NotEd25519 info ∷ WrongSize info ∷ []

-- The rules of a verification, in their order: for the key, for its writing, for the signature.
abbrev pub verify_rules : Judge → SignatureAlgorithm → SubjectPublicKeyInfo → List ℕ → List ℕ
    → List (Rule SignatureError)
verify_rules judge algorithm info msg sig =
    key_rules algorithm info ++ Unwritable info ∷ Malformed judge algorithm info msg sig ∷
    Rejected judge algorithm info msg sig ∷ []

-- ---- what a verification returns

-- The scheme accepts the signature of the message by the key, else the first broken rule.
abbrev pub IsVerified : {A : Type 0} → Judge → SignatureAlgorithm → SubjectPublicKeyInfo → List ℕ
    → List ℕ → Result A SignatureError → Type 0
IsVerified judge algorithm info msg sig result =
    MatchResult result (λ _. Accepts judge algorithm info msg sig)
    (RefusesSignatureBy (verify_rules judge algorithm info msg sig))

-- The verdict of the scheme, else the first broken rule for the key and its writing.
abbrev pub HasVerdict : Judge → SignatureAlgorithm → SubjectPublicKeyInfo → List ℕ → List ℕ
    → Result Verdict SignatureError → Type 0
HasVerdict judge algorithm info msg sig result =
    MatchResult result (IsJudged judge algorithm info msg sig)
    (RefusesSignatureBy (key_rules algorithm info ++ Unwritable info ∷ []))

-- A key that doesn't fit the algorithm is refused, even when memory runs out.
abbrev pub RefusesKey : {A : Type 0} → SignatureAlgorithm → SubjectPublicKeyInfo
    → Result A SignatureError → Type 0
RefusesKey algorithm info result =
    (e : SignatureError) → IsFirstBroken (key_rules algorithm info) e → result ≡ Err e
