-- The encoding of an RSA private key is what the demonstration scheme accepts as an RSA secret.
use Rattle.std.proofs.Common.{◌≡◌, ℕ, List, Option, Some, sym, ap, subst, ◌∙◌}
use Rattle.der_core.specs.Encoding.{encoding, IsDer}
use Rattle.asn1_types.specs.Values.{integer_contents}
use Rattle.asn1_types.specs.declared.bit_string.BitString.{BitString}
use Rattle.key_types.specs.declared.algorithm.AlgorithmIdentifier.{AlgorithmIdentifier}
use Rattle.key_types.specs.declared.key_info.SubjectPublicKeyInfo.{SubjectPublicKeyInfo}
use Rattle.key_types.specs.declared.subject_key.SubjectKey.{SubjectKey}
use Rattle.key_types.specs.RsaPrivateKey.{rsa_private_key}
use Rattle.key_types.specs.declared.rsa_private_key.RsaPrivateKey.{RsaPrivateKey}
use Rattle.sig_core.specs.DemoScheme.{demo_key}
use Rattle.sig_core.specs.RsaSecret.{RsaNumbers, IsRsaSecret}
use Rattle.sig_core.specs.declared.algorithm.SchemeKind.TheVariants.{Rsa}
use Rattle.sig_core.proofs.DemoKeys.{rsa_key_is}
use Rattle.key_core.specs.Pkcs1.{IsPkcs1Of}
use Rattle.key_core.specs.PrivatePkcs1.{IsPkcs1OfPrivate}
use Rattle.key_core.specs.PublicHalf.{IsPublicHalf}
use Rattle.key_core.specs.declared.private_key_value.PrivateKeyValue.{PrivateKeyValue}
use Rattle.key_core.specs.declared.private_key_value.PrivateKeyValue.TheVariants as values

abbrev pub numbers_of : RsaPrivateKey → RsaNumbers
numbers_of key = record {
  modulus = integer_contents key.n;
  public_exponent = integer_contents key.e;
  private_exponent = integer_contents key.d;
  prime1 = integer_contents key.p;
  prime2 = integer_contents key.q;
  exponent1 = integer_contents key.dp;
  exponent2 = integer_contents key.dq;
  coefficient = integer_contents key.qinv;
}

pub is_secret : (key : RsaPrivateKey) (octets : List ℕ) → octets ≡ encoding (rsa_private_key key) → IsDer (rsa_private_key key) → IsRsaSecret octets
is_secret key octets is bounds = record {
  numbers = numbers_of key;
  integers = record {
    modulus = key.n.formed;
    public_exponent = key.e.formed;
    private_exponent = key.d.formed;
    prime1 = key.p.formed;
    prime2 = key.q.formed;
    exponent1 = key.dp.formed;
    exponent2 = key.dq.formed;
    coefficient = key.qinv.formed;
  };
  der = bounds;
  encoded = is;
}

abbrev key_of : (octets : List ℕ) → IsRsaSecret octets → RsaPrivateKey
key_of octets secret = record {
  n = record { contents = secret.numbers.modulus; formed = secret.integers.modulus };
  e = record { contents = secret.numbers.public_exponent; formed = secret.integers.public_exponent };
  d = record { contents = secret.numbers.private_exponent; formed = secret.integers.private_exponent };
  p = record { contents = secret.numbers.prime1; formed = secret.integers.prime1 };
  q = record { contents = secret.numbers.prime2; formed = secret.integers.prime2 };
  dp = record { contents = secret.numbers.exponent1; formed = secret.integers.exponent1 };
  dq = record { contents = secret.numbers.exponent2; formed = secret.integers.exponent2 };
  qinv = record { contents = secret.numbers.coefficient; formed = secret.integers.coefficient };
}

pub is_key : (octets : List ℕ) → IsRsaSecret octets → (key : RsaPrivateKey) × (octets ≡ encoding (rsa_private_key key)) × IsDer (rsa_private_key key)
is_key octets secret = (key_of octets secret, secret.encoded, secret.der)

pub derived_half : (value : PrivateKeyValue) (algorithm : AlgorithmIdentifier) (public_key : Option BitString) (info : SubjectPublicKeyInfo)
    (secret bytes : List ℕ)
    → IsPkcs1OfPrivate value secret → IsPublicHalf value algorithm public_key info → IsPkcs1Of info.subject_public_key bytes → demo_key Rsa secret ≡ Some bytes
unfolding is_secret
derived_half (values.Rsa key) algorithm public_key info secret bytes private half public =
    let written = subst (λ (k : SubjectKey). IsPkcs1Of k bytes) half.is public in
    rsa_key_is secret (is_secret key secret private.0 private.1) ∙ ap Some (sym written.0)
derived_half (values.Ec key) algorithm public_key info secret bytes private half public = absurd private
derived_half (values.Ed octets) algorithm public_key info secret bytes private half public = absurd private
