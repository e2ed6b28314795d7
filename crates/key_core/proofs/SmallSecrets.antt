-- The secret of a small key is one of the demonstration scheme, and is read, unless memory runs out.
use Rattle.std.proofs.Common.{◌≡◌, ℕ, List, [], ◌∷◌, refl, arith, Some}
use Rattle.der_core.specs.Encoding.{encoding, IsWellFormed, IsDer}
use Rattle.der_core.specs.Refusals.{RefusesOctets}
use Rattle.der_core.specs.declared.error.DerError.{DerError}
use Rattle.der_core.specs.declared.error.DerError.TheVariants as errors
use Rattle.der_core.proofs.Exact.{no_fault_where_whole, whole_once}
use Rattle.der_core.proofs.Sizes.{light_short}
use Rattle.asn1_types.specs.Elements.{integer_of}
use Rattle.asn1_types.specs.Integer.{IsInteger}
use Rattle.sig_core.specs.DemoScheme.{demo_key}
use Rattle.sig_core.specs.RsaSecret.{IsRsaSecret, rsa_private_element}
use Rattle.sig_core.specs.declared.algorithm.SchemeKind.TheVariants.{Rsa}
use Rattle.sig_core.proofs.DemoKeys.{rsa_key_is}
use Rattle.key_core.specs.PrivatePkcs1.{IsRsaPrivateKey}
use Rattle.key_core.specs.SmallKeys.{IsSmallModulus, small_numbers, small_rsa_key, small_secret}
use Rattle.key_core.proofs.RsaSecrets.{is_key}

not_empty : (first : ℕ) (rest : List ℕ) → IsInteger (first ∷ rest)
not_empty first rest e = absurd cc

pub integer_formed : (contents : List ℕ) → IsWellFormed (integer_of contents)
integer_formed contents = ((omega arith, omega arith, omega arith), refl)

pub secret_formed : (modulus : List ℕ) → IsWellFormed (rsa_private_element (small_numbers modulus))
secret_formed modulus = (
  (omega arith, omega arith, omega arith),
  refl,
  (
    integer_formed (0 ∷ []),
    (
      integer_formed modulus,
      (
        integer_formed (3 ∷ []),
        (
          integer_formed (5 ∷ []),
          (integer_formed (7 ∷ []), (integer_formed (11 ∷ []), (integer_formed (1 ∷ []), (integer_formed (2 ∷ []), (integer_formed (4 ∷ []), tt))))),
        ),
      ),
    ),
  ),
)

module _ (modulus : List ℕ) (small : IsSmallModulus modulus) where
  pub secret_der : IsDer (rsa_private_element (small_numbers modulus))
  secret_der = record {
    formed = secret_formed modulus;
    nested = omega arith;
    short = light_short (rsa_private_element (small_numbers modulus)) (omega (arith, small.few));
  }

  pub is_secret : IsRsaSecret (small_secret modulus)
  is_secret = record {
    numbers = small_numbers modulus;
    integers = record {
      modulus = small.integer;
      public_exponent = not_empty _ _;
      private_exponent = not_empty _ _;
      prime1 = not_empty _ _;
      prime2 = not_empty _ _;
      exponent1 = not_empty _ _;
      exponent2 = not_empty _ _;
      coefficient = not_empty _ _;
    };
    der = secret_der;
    encoded = refl;
  }

  pub demo_key_is : demo_key Rsa (small_secret modulus) ≡ Some (encoding (small_rsa_key modulus))
  unfolding is_secret
  demo_key_is = rsa_key_is (small_secret modulus) is_secret

  -- the secret is refused for memory alone
  pub read_or_memory : (e : DerError) → RefusesOctets IsRsaPrivateKey (small_secret modulus) e → e ≡ errors.Memory
  read_or_memory (errors.Malformed m) refused =
      absurd (no_fault_where_whole (small_secret modulus) (rsa_private_element (small_numbers modulus)) m.at m.fault secret_der refl refused)
  read_or_memory errors.Shape refused =
      let key = is_key (small_secret modulus) is_secret in
      absurd (refused.none key.0 (whole_once (small_secret modulus) refused.element _ refused.der key.2 refused.encoded key.1))
  read_or_memory errors.TooDeep refused = absurd refused
  read_or_memory errors.TooLong refused = absurd refused
  read_or_memory errors.Memory refused = refl
