-- Views of Curve25519 and Curve448 keys.
use Rattle.std.specs.Prelude.{◌≡◌, ◌≢◌, Some, None, Result, MatchResult}
use Rattle.std.specs.Option.{option_copied}
use Rattle.asn1_types.specs.Values.{payload_of}
use Rattle.asn1_types.specs.declared.bit_string.BitString.{BitString}
use Rattle.key_types.specs.AlgorithmIdentifier.{oid_of}
use Rattle.key_types.specs.SubjectKey.{kind_of_key}
use Rattle.key_types.specs.declared.key_info.SubjectPublicKeyInfo.{SubjectPublicKeyInfo}
use Rattle.key_types.specs.declared.key_kind.KeyKind.TheVariants as kinds
use Rattle.key_types.specs.declared.subject_key.SubjectKey.TheVariants as keys
use Rattle.key_core.specs.PrivateKeyValue.{private_kind}
use Rattle.key_core.specs.declared.ed_views.EdKeypair.{EdKeypair}
use Rattle.key_core.specs.declared.ed_views.EdPublicKey.{EdPublicKey}
use Rattle.key_core.specs.declared.error.KeyContext.TheVariants as contexts
use Rattle.key_core.specs.declared.error.KeyError.{KeyError}
use Rattle.key_core.specs.declared.error.KeyError.TheVariants as errors
use Rattle.key_core.specs.declared.private_key.PrivateKey.{PrivateKey}
use Rattle.key_core.specs.declared.private_key_value.PrivateKeyValue.TheVariants as values

-- The view borrows the parts of a private key.
pub record IsEdKeypairOf (key : PrivateKey) (keypair : EdKeypair) : Type 0 where
  pub secret_is : key.info.private_key ≡ values.Ed keypair.secret.now
  pub algorithm_is : keypair.algorithm.now ≡ oid_of key.info.private_key_algorithm
  pub public_is : option_copied keypair.public_key ≡ key.public_key

-- the view of a private key, or that the key is of another kind
abbrev pub GivesEdKeypair : PrivateKey → Result EdKeypair KeyError → Type 0
GivesEdKeypair key result =
    MatchResult result (IsEdKeypairOf key)
    (λ e. (e ≡ errors.ED contexts.NotEd) × (private_kind key.info.private_key ≢ kinds.Ed))

-- The view borrows the parts of a public key.
pub record IsEdPublicOf (info : SubjectPublicKeyInfo) (view : EdPublicKey) : Type 0 where
  pub bits : BitString
  pub is : info.subject_public_key ≡ keys.Ed bits
  pub key_is : view.key.now ≡ payload_of bits
  pub algorithm_is : view.algorithm.now ≡ oid_of info.algorithm

-- the view of a public key, or that the key is of another kind
abbrev pub GivesEdPublic : SubjectPublicKeyInfo → Result EdPublicKey KeyError → Type 0
GivesEdPublic info result =
    MatchResult result (IsEdPublicOf info)
    (λ e. (e ≡ errors.ED contexts.NotEd) × (kind_of_key info.subject_public_key ≢ kinds.Ed))

-- The view borrows the public key of a key pair.
pub record IsEdPublicOfKeypair (keypair : EdKeypair) (view : EdPublicKey) : Type 0 where
  pub bits : BitString
  pub is : option_copied keypair.public_key ≡ Some bits
  pub key_is : view.key.now ≡ payload_of bits
  pub algorithm_is : view.algorithm.now ≡ keypair.algorithm.now

-- the view of the public key of a pair, or that it has none
abbrev pub GivesEdPublicOfKeypair : EdKeypair → Result EdPublicKey KeyError → Type 0
GivesEdPublicOfKeypair keypair result =
    MatchResult result (IsEdPublicOfKeypair keypair)
    (λ e. (e ≡ errors.ED contexts.PublicKeyMissing) × (option_copied keypair.public_key ≡ None))
