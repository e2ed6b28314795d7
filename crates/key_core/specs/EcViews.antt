-- Views of EC keys.
use Rattle.std.specs.Prelude.{◌≡◌, ◌≢◌, Some, None, Result, MatchResult}
use Rattle.std.specs.Option.{option_copied}
use Rattle.asn1_types.specs.Elements.{object_identifier_of}
use Rattle.der_core.specs.BorrowedOption.{kept_option}
use Rattle.asn1_types.specs.Values.{lent_contents, payload_of}
use Rattle.asn1_types.specs.declared.bit_string.BitString.{BitString}
use Rattle.key_types.specs.AlgorithmIdentifier.{parameters_of}
use Rattle.key_types.specs.SubjectKey.{kind_of_key}
use Rattle.key_types.specs.declared.key_info.SubjectPublicKeyInfo.{SubjectPublicKeyInfo}
use Rattle.key_types.specs.declared.key_kind.KeyKind.TheVariants as kinds
use Rattle.key_types.specs.declared.subject_key.SubjectKey.TheVariants as keys
use Rattle.key_types.specs.declared.ec_private_key.ECPrivateKey.{ECPrivateKey}
use Rattle.key_core.specs.PrivateKeyValue.{private_kind}
use Rattle.key_core.specs.declared.ec_views.EcdsaKeypair.{EcdsaKeypair}
use Rattle.key_core.specs.declared.ec_views.EcdsaPublicKey.{EcdsaPublicKey}
use Rattle.key_core.specs.declared.error.KeyContext.TheVariants as contexts
use Rattle.key_core.specs.declared.error.KeyError.{KeyError}
use Rattle.key_core.specs.declared.error.KeyError.TheVariants as errors
use Rattle.key_core.specs.declared.private_key.PrivateKey.{PrivateKey}
use Rattle.key_core.specs.declared.private_key_value.PrivateKeyValue.TheVariants as values

-- The view borrows the parts of a private key. The parameters of its algorithm are the OID of the
-- curve.
pub record IsEcKeypairOf (key : PrivateKey) (keypair : EcdsaKeypair) : Type 0 where
  pub read : ECPrivateKey
  pub is : key.info.private_key ≡ values.Ec read
  pub secret_is : keypair.secret.now ≡ read.private_key
  pub curve_is : kept_option (parameters_of key.info.private_key_algorithm)
      ≡ Some (object_identifier_of (lent_contents keypair.curve))
  pub public_is : option_copied keypair.point ≡ key.public_key

-- the view of a private key, or that the key is of another kind
abbrev pub GivesEcKeypair : PrivateKey → Result EcdsaKeypair KeyError → Type 0
GivesEcKeypair key result =
    MatchResult result (IsEcKeypairOf key)
    (λ e. (e ≡ errors.EC contexts.NotEc) × (private_kind key.info.private_key ≢ kinds.Ec))

-- The view borrows the parts of a public key.
pub record IsEcPublicOf (info : SubjectPublicKeyInfo) (view : EcdsaPublicKey) : Type 0 where
  pub bits : BitString
  pub is : info.subject_public_key ≡ keys.Ec bits
  pub point_is : view.point.now ≡ payload_of bits
  pub curve_is : kept_option (parameters_of info.algorithm)
      ≡ Some (object_identifier_of (lent_contents view.curve))

-- the view of a public key, or that the key is of another kind
abbrev pub GivesEcPublic : SubjectPublicKeyInfo → Result EcdsaPublicKey KeyError → Type 0
GivesEcPublic info result =
    MatchResult result (IsEcPublicOf info)
    (λ e. (e ≡ errors.EC contexts.NotEc) × (kind_of_key info.subject_public_key ≢ kinds.Ec))

-- The view borrows the public key of a key pair.
pub record IsEcPublicOfKeypair (keypair : EcdsaKeypair) (view : EcdsaPublicKey) : Type 0 where
  pub bits : BitString
  pub is : option_copied keypair.point ≡ Some bits
  pub point_is : view.point.now ≡ payload_of bits
  pub curve_is : lent_contents view.curve ≡ lent_contents keypair.curve

-- the view of the public key of a pair, or that it has none
abbrev pub GivesEcPublicOfKeypair : EcdsaKeypair → Result EcdsaPublicKey KeyError → Type 0
GivesEcPublicOfKeypair keypair result =
    MatchResult result (IsEcPublicOfKeypair keypair)
    (λ e. (e ≡ errors.EC contexts.PublicKeyMissing) × (option_copied keypair.point ≡ None))
