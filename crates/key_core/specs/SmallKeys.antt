-- RSA keys that differ in a modulus of few octets alone, which demonstrations and registers issue
-- by. Nothing is computed with them but their public parts.
use Rattle.std.specs.Prelude.{◌≡◌, ℕ, ◌≤◌, List, [], ◌∷◌, length, Some}
use Rattle.der_core.specs.DerElement.{DerElement}
use Rattle.der_core.specs.Elements.{bit_octets, null, sequence}
use Rattle.der_core.specs.Encoding.{encoding}
use Rattle.asn1_types.specs.Elements.{object_identifier_of}
use Rattle.asn1_types.specs.Integer.{IsInteger}
use Rattle.asn1_types.specs.declared.oids.TheConstants.{RSA_ENCRYPTION}
use Rattle.key_types.specs.AlgorithmIdentifier.{algorithm_of}
use Rattle.key_types.specs.declared.key_info.SubjectPublicKeyInfo.{SubjectPublicKeyInfo}
use Rattle.sig_core.specs.DemoScheme.{demo_key, demo_signs, demo_verdict}
use Rattle.sig_core.specs.Digest.{digest_of}
use Rattle.sig_core.specs.RsaSecret.{RsaNumbers, rsa_private_element, rsa_public_element}
use Rattle.sig_core.specs.declared.hash.HashAlgorithm.TheVariants.{SHA2_256}
use Rattle.key_core.specs.Keys.{container_of, point_beside}
use Rattle.key_core.specs.PrivatePkcs1.{IsPrivatePkcs1}
use Rattle.key_core.specs.PublicHalf.{IsPublicHalf}
use Rattle.key_core.specs.Signing.{KeyArithmetic, Pair, Signs, arithmetic}
use Rattle.key_core.specs.declared.private_key.PrivateKey.{PrivateKey}

-- the contents octets of an INTEGER, four at most
pub record IsSmallModulus (modulus : List ℕ) : Type 0 where
  pub integer : IsInteger modulus
  pub few : length modulus ≤ 4

-- ---- the private key

-- the numbers of the key, each by its contents octets
abbrev pub small_numbers : List ℕ → RsaNumbers
small_numbers modulus = record {
  modulus = modulus;
  public_exponent = 3 ∷ [];
  private_exponent = 5 ∷ [];
  prime1 = 7 ∷ [];
  prime2 = 11 ∷ [];
  exponent1 = 1 ∷ [];
  exponent2 = 2 ∷ [];
  coefficient = 4 ∷ [];
}

-- the octets of the RSAPrivateKey (RFC 8017 A.1.2)
abbrev pub small_secret : List ℕ → List ℕ
small_secret modulus = encoding (rsa_private_element (small_numbers modulus))

-- ---- the public key

-- an algorithm whose parameters are NULL (RFC 3279 2.2.1, 2.3.1)
abbrev pub with_null : List ℕ → DerElement
with_null oid = algorithm_of (object_identifier_of oid) (Some null)

-- the RSAPublicKey (RFC 8017 A.1.1)
abbrev pub small_rsa_key : List ℕ → DerElement
small_rsa_key modulus = rsa_public_element modulus (3 ∷ [])

-- the SubjectPublicKeyInfo (RFC 3279 2.3.1)
abbrev pub small_key_info : List ℕ → DerElement
small_key_info modulus =
    sequence (with_null RSA_ENCRYPTION.now ∷ bit_octets (encoding (small_rsa_key modulus)) ∷ [])

-- the key identifier: the SHA-256 of the SubjectPublicKeyInfo
abbrev pub small_key_id : List ℕ → List ℕ
small_key_id modulus = digest_of SHA2_256 (encoding (small_key_info modulus))

-- The private key is the one of this modulus, as it is read, and the public key is its own.
pub record AreSmallKeys (modulus : List ℕ) (key : PrivateKey) (info : SubjectPublicKeyInfo)
    : Type 0 where
  pub private : IsPrivatePkcs1 (small_secret modulus) key
  pub public : IsPublicHalf (container_of key).private_key (container_of key).private_key_algorithm
      (point_beside key) info

-- ---- the demonstration scheme

-- which keys belong together, and what is signed
abbrev pub demo_pair : Pair
demo_pair kind key secret = demo_key kind secret ≡ Some key

abbrev pub signs_by_demo : Signs
signs_by_demo alg secret message = demo_signs alg secret

abbrev pub demo_arithmetic : KeyArithmetic
demo_arithmetic = arithmetic demo_verdict signs_by_demo demo_pair
