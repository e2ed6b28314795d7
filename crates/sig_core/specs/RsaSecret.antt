-- RSA secrets, by the numbers in them.
use Rattle.std.specs.Prelude.{◌≡◌, ℕ, List, [], ◌∷◌}
use Rattle.der_core.specs.DerElement.{DerElement}
use Rattle.der_core.specs.Elements.{sequence}
use Rattle.der_core.specs.Encoding.{encoding, IsDer}
use Rattle.asn1_types.specs.Elements.{integer_of}
use Rattle.asn1_types.specs.Integer.{IsInteger}

-- the numbers of a private key with two primes, each by its contents octets
pub record RsaNumbers : Type 0 where
  pub modulus : List ℕ
  pub public_exponent : List ℕ
  pub private_exponent : List ℕ
  pub prime1 : List ℕ
  pub prime2 : List ℕ
  pub exponent1 : List ℕ
  pub exponent2 : List ℕ
  pub coefficient : List ℕ

-- the contents octets of each are those of an INTEGER
pub record AreIntegers (numbers : RsaNumbers) : Type 0 where
  pub modulus : IsInteger numbers.modulus
  pub public_exponent : IsInteger numbers.public_exponent
  pub private_exponent : IsInteger numbers.private_exponent
  pub prime1 : IsInteger numbers.prime1
  pub prime2 : IsInteger numbers.prime2
  pub exponent1 : IsInteger numbers.exponent1
  pub exponent2 : IsInteger numbers.exponent2
  pub coefficient : IsInteger numbers.coefficient

-- RSAPrivateKey ::= SEQUENCE { version Version, modulus, publicExponent, privateExponent, prime1,
-- prime2, exponent1, exponent2, coefficient, each an INTEGER, otherPrimeInfos OtherPrimeInfos
-- OPTIONAL } (RFC 8017 A.1.2): only with two primes, of version 0
abbrev pub rsa_private_element : RsaNumbers → DerElement
rsa_private_element numbers =
    sequence (integer_of (0 ∷ []) ∷ integer_of numbers.modulus ∷
    integer_of numbers.public_exponent ∷ integer_of numbers.private_exponent ∷
    integer_of numbers.prime1 ∷ integer_of numbers.prime2 ∷ integer_of numbers.exponent1 ∷
    integer_of numbers.exponent2 ∷ integer_of numbers.coefficient ∷ [])

-- RSAPublicKey ::= SEQUENCE { modulus INTEGER, publicExponent INTEGER } (RFC 8017 A.1.1)
abbrev pub rsa_public_element : List ℕ → List ℕ → DerElement
rsa_public_element modulus public_exponent =
    sequence (integer_of modulus ∷ integer_of public_exponent ∷ [])

-- the secret is the encoding of an RSAPrivateKey
pub record IsRsaSecret (secret : List ℕ) : Type 0 where
  pub numbers : RsaNumbers
  pub integers : AreIntegers numbers
  pub der : IsDer (rsa_private_element numbers)
  pub encoded : secret ≡ encoding (rsa_private_element numbers)
