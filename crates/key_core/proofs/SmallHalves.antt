-- The public halves of small keys: each private key that is read from the secret of a modulus has the
-- same one.
use Rattle.std.proofs.Common.{◌≡◌, IsTrue, ℕ, List, refl, sym, ap₂, subst, ◌∙◌}
use Rattle.asn1_types.specs.Facts.Elements.{same_integer}
use Rattle.asn1_types.specs.declared.integer.IntegerAsn1.{IntegerAsn1}
use Rattle.key_types.specs.KeyKind.{IsAlgorithmOf, MayHave, names_kind}
use Rattle.key_types.specs.declared.key_kind.KeyKind.TheVariants as kinds
use Rattle.key_types.specs.declared.key_info.SubjectPublicKeyInfo.{SubjectPublicKeyInfo}
use Rattle.key_types.specs.declared.public_key.RsaPublicKey.{RsaPublicKey}
use Rattle.key_types.specs.declared.subject_key.SubjectKey.TheVariants as keys
use Rattle.key_types.specs.declared.rsa_private_key.RsaPrivateKey.{RsaPrivateKey}
use Rattle.key_core.specs.Keys.{container_of, point_beside}
use Rattle.key_core.specs.MadeKeys.{IsRsaInfo}
use Rattle.key_core.specs.PrivatePkcs1.{IsPrivatePkcs1, IsRsaContainer}
use Rattle.key_core.specs.PublicHalf.{IsPublicHalf, public_numbers}
use Rattle.key_core.specs.Signing.{IsKeyPair}
use Rattle.key_core.specs.SmallKeys.{AreSmallKeys, IsSmallModulus, demo_pair, small_secret}
use Rattle.key_core.specs.declared.private_key.PrivateKey.{PrivateKey}
use Rattle.key_core.specs.declared.private_key_value.PrivateKeyValue.{PrivateKeyValue}
use Rattle.key_core.proofs.SmallKeys.{half_of, is_der, is_encoded, keys_pair, numbers_are}

pub algorithm_of_rsa : (key : PrivateKey) (rsa : RsaPrivateKey) → IsRsaContainer rsa (container_of key)
    → IsAlgorithmOf kinds.Rsa (container_of key).private_key_algorithm
algorithm_of_rsa key rsa is = record {
  named = subst (λ (oid : List ℕ). IsTrue (names_kind kinds.Rsa oid)) (sym is.identifier) refl;
  allowed = subst (MayHave kinds.Rsa) (sym is.parameters) refl;
}

abbrev pub info_beside : (key : PrivateKey) (rsa : RsaPrivateKey) → IsRsaContainer rsa (container_of key) → SubjectPublicKeyInfo
info_beside key rsa is = record {
  algorithm = (container_of key).private_key_algorithm;
  subject_public_key = keys.Rsa (public_numbers rsa);
  fits = algorithm_of_rsa key rsa is;
}

half_as : (modulus : List ℕ) (key : PrivateKey) (info : SubjectPublicKeyInfo) (is : IsPrivatePkcs1 (small_secret modulus) key)
    → IsRsaInfo (public_numbers is.rsa) info → AreSmallKeys modulus key info
half_as modulus key info is half = record {
  private = is;
  public = subst (λ (v : PrivateKeyValue). IsPublicHalf v (container_of key).private_key_algorithm (point_beside key) info) (sym is.container.is) half;
}

-- each private key has a public one
pub keys_beside : (modulus : List ℕ) (key : PrivateKey) (is : IsPrivatePkcs1 (small_secret modulus) key)
    → AreSmallKeys modulus key (info_beside key is.rsa is.container)
keys_beside modulus key is =
    half_as modulus key (info_beside key is.rsa is.container) is
    (record { is = refl; identifier = is.container.identifier; parameters = is.container.parameters })

abbrev numbers : IntegerAsn1 → IntegerAsn1 → RsaPublicKey
numbers modulus exponent = record { modulus = modulus; public_exponent = exponent }

same_numbers : (modulus : List ℕ) (a b : PrivateKey) (x : IsPrivatePkcs1 (small_secret modulus) a) (y : IsPrivatePkcs1 (small_secret modulus) b)
    → public_numbers x.rsa ≡ public_numbers y.rsa
same_numbers modulus a b x y =
    let first = numbers_are modulus x.rsa (is_encoded modulus a x) (is_der modulus a x) in
    let second = numbers_are modulus y.rsa (is_encoded modulus b y) (is_der modulus b y) in
    ap₂ numbers
    (same_integer x.rsa.n y.rsa.n (first.0 ∙ sym second.0)) (same_integer x.rsa.e y.rsa.e (first.1 ∙ sym second.1))

-- the public key of one is that of each other that is read from the same secret
pub keys_for : (modulus : List ℕ) (a b : PrivateKey) (info : SubjectPublicKeyInfo) → AreSmallKeys modulus a info → IsPrivatePkcs1 (small_secret modulus) b
    → AreSmallKeys modulus b info
keys_for modulus a b info keys is =
    half_as modulus b info is (subst (λ (k : RsaPublicKey). IsRsaInfo k info) (same_numbers modulus a b keys.private is) (half_of modulus a info keys))

-- a private key that is read from the secret pairs with the public key of each other
pub pairs : (modulus : List ℕ) → IsSmallModulus modulus → (own key : PrivateKey) (info : SubjectPublicKeyInfo) → AreSmallKeys modulus own info
    → IsPrivatePkcs1 (small_secret modulus) key → IsKeyPair demo_pair key info
pairs modulus small own key info keys is = keys_pair modulus small key info (keys_for modulus own key info keys is)
