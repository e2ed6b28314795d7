-- RSAPrivateKey ::= SEQUENCE { version Version, modulus, publicExponent, privateExponent, prime1,
-- prime2, exponent1, exponent2, coefficient, each an INTEGER, otherPrimeInfos OtherPrimeInfos
-- OPTIONAL } (RFC 8017 A.1.2): only with two primes, of version 0
use Rattle.std.specs.Prelude.{[], ◌∷◌}
use Rattle.der_core.specs.DerElement.{DerElement}
use Rattle.der_core.specs.Elements.{sequence}
use Rattle.asn1_types.specs.Elements.{integer, integer_of}
use Rattle.key_types.specs.declared.rsa_private_key.RsaPrivateKey.{RsaPrivateKey}

-- the version of keys with two primes
abbrev pub two_prime : DerElement
two_prime = integer_of (0 ∷ [])

-- the elements of its fields
pub record RsaElements : Type 0 where
  pub n : DerElement
  pub e : DerElement
  pub d : DerElement
  pub p : DerElement
  pub q : DerElement
  pub dp : DerElement
  pub dq : DerElement
  pub qinv : DerElement

-- the element of a key with two primes, by those of its fields
abbrev pub rsa_private_key_of : RsaElements → DerElement
rsa_private_key_of f =
    sequence (two_prime ∷ f.n ∷ f.e ∷ f.d ∷ f.p ∷ f.q ∷ f.dp ∷ f.dq ∷ f.qinv ∷ [])

-- the element of a key
abbrev pub rsa_private_key : RsaPrivateKey → DerElement
rsa_private_key key =
    rsa_private_key_of (record {
      n = integer key.n;
      e = integer key.e;
      d = integer key.d;
      p = integer key.p;
      q = integer key.q;
      dp = integer key.dp;
      dq = integer key.dq;
      qinv = integer key.qinv;
    })
