use Rattle.std.proofs.Common.{refl, ap, ◌∙◌}
use Rattle.der_core.specs.Elements.{sequence}
use Rattle.sig_core.proofs.SecretKids.{kids_of_key, same_kids, left, joined, joined_as}
use Rattle.sig_core.proofs.rsa_secret.RsaSecret.within.Goals as goal

pub returns-in_err-modulus : goal.returns-in_err-modulus
returns-in_err-modulus c =
    rw c.from_residual-in_err-modulus.ensures (λ numbers integers e.
    let all = same_kids _ _ (kids_of_key numbers) c.in_ok-kids.ensures e in
    let rest = left _ _ _ _ c.in_ok-next.ensures all in
    c.in_err-modulus.ensures numbers.modulus _ integers.modulus rest)

pub returns-in_err-public_exponent : goal.returns-in_err-public_exponent
returns-in_err-public_exponent c =
    rw c.from_residual-in_err-public_exponent.ensures (λ numbers integers e.
    let all = same_kids _ _ (kids_of_key numbers) c.in_ok-kids.ensures e in
    let rest = left _ _ _ _ c.in_ok-next.ensures all in
    let rest1 = left _ _ _ _ c.in_ok-modulus.ensures.1 rest in
    c.in_err-public_exponent.ensures numbers.public_exponent _ integers.public_exponent rest1)

pub returns-in_err-_private_exponent : goal.returns-in_err-_private_exponent
returns-in_err-_private_exponent c =
    rw c.from_residual-in_err-_private_exponent.ensures (λ numbers integers e.
    let all = same_kids _ _ (kids_of_key numbers) c.in_ok-kids.ensures e in
    let rest = left _ _ _ _ c.in_ok-next.ensures all in
    let rest1 = left _ _ _ _ c.in_ok-modulus.ensures.1 rest in
    let rest2 = left _ _ _ _ c.in_ok-public_exponent.ensures.1 rest1 in
    c.in_err-_private_exponent.ensures numbers.private_exponent _ integers.private_exponent rest2)

pub returns-in_err-_prime1 : goal.returns-in_err-_prime1
returns-in_err-_prime1 c =
    rw c.from_residual-in_err-_prime1.ensures (λ numbers integers e.
    let all = same_kids _ _ (kids_of_key numbers) c.in_ok-kids.ensures e in
    let rest = left _ _ _ _ c.in_ok-next.ensures all in
    let rest1 = left _ _ _ _ c.in_ok-modulus.ensures.1 rest in
    let rest2 = left _ _ _ _ c.in_ok-public_exponent.ensures.1 rest1 in
    let rest3 = left _ _ _ _ c.in_ok-_private_exponent.ensures.1 rest2 in
    c.in_err-_prime1.ensures numbers.prime1 _ integers.prime1 rest3)

pub returns-in_err-_prime2 : goal.returns-in_err-_prime2
returns-in_err-_prime2 c =
    rw c.from_residual-in_err-_prime2.ensures (λ numbers integers e.
    let all = same_kids _ _ (kids_of_key numbers) c.in_ok-kids.ensures e in
    let rest = left _ _ _ _ c.in_ok-next.ensures all in
    let rest1 = left _ _ _ _ c.in_ok-modulus.ensures.1 rest in
    let rest2 = left _ _ _ _ c.in_ok-public_exponent.ensures.1 rest1 in
    let rest3 = left _ _ _ _ c.in_ok-_private_exponent.ensures.1 rest2 in
    let rest4 = left _ _ _ _ c.in_ok-_prime1.ensures.1 rest3 in
    c.in_err-_prime2.ensures numbers.prime2 _ integers.prime2 rest4)

pub returns-in_err-_exponent1 : goal.returns-in_err-_exponent1
returns-in_err-_exponent1 c =
    rw c.from_residual-in_err-_exponent1.ensures (λ numbers integers e.
    let all = same_kids _ _ (kids_of_key numbers) c.in_ok-kids.ensures e in
    let rest = left _ _ _ _ c.in_ok-next.ensures all in
    let rest1 = left _ _ _ _ c.in_ok-modulus.ensures.1 rest in
    let rest2 = left _ _ _ _ c.in_ok-public_exponent.ensures.1 rest1 in
    let rest3 = left _ _ _ _ c.in_ok-_private_exponent.ensures.1 rest2 in
    let rest4 = left _ _ _ _ c.in_ok-_prime1.ensures.1 rest3 in
    let rest5 = left _ _ _ _ c.in_ok-_prime2.ensures.1 rest4 in
    c.in_err-_exponent1.ensures numbers.exponent1 _ integers.exponent1 rest5)

pub returns-in_err-_exponent2 : goal.returns-in_err-_exponent2
returns-in_err-_exponent2 c =
    rw c.from_residual-in_err-_exponent2.ensures (λ numbers integers e.
    let all = same_kids _ _ (kids_of_key numbers) c.in_ok-kids.ensures e in
    let rest = left _ _ _ _ c.in_ok-next.ensures all in
    let rest1 = left _ _ _ _ c.in_ok-modulus.ensures.1 rest in
    let rest2 = left _ _ _ _ c.in_ok-public_exponent.ensures.1 rest1 in
    let rest3 = left _ _ _ _ c.in_ok-_private_exponent.ensures.1 rest2 in
    let rest4 = left _ _ _ _ c.in_ok-_prime1.ensures.1 rest3 in
    let rest5 = left _ _ _ _ c.in_ok-_prime2.ensures.1 rest4 in
    let rest6 = left _ _ _ _ c.in_ok-_exponent1.ensures.1 rest5 in
    c.in_err-_exponent2.ensures numbers.exponent2 _ integers.exponent2 rest6)

pub returns-in_err-_coefficient : goal.returns-in_err-_coefficient
returns-in_err-_coefficient c =
    rw c.from_residual-in_err-_coefficient.ensures (λ numbers integers e.
    let all = same_kids _ _ (kids_of_key numbers) c.in_ok-kids.ensures e in
    let rest = left _ _ _ _ c.in_ok-next.ensures all in
    let rest1 = left _ _ _ _ c.in_ok-modulus.ensures.1 rest in
    let rest2 = left _ _ _ _ c.in_ok-public_exponent.ensures.1 rest1 in
    let rest3 = left _ _ _ _ c.in_ok-_private_exponent.ensures.1 rest2 in
    let rest4 = left _ _ _ _ c.in_ok-_prime1.ensures.1 rest3 in
    let rest5 = left _ _ _ _ c.in_ok-_prime2.ensures.1 rest4 in
    let rest6 = left _ _ _ _ c.in_ok-_exponent1.ensures.1 rest5 in
    let rest7 = left _ _ _ _ c.in_ok-_exponent2.ensures.1 rest6 in
    c.in_err-_coefficient.ensures numbers.coefficient _ integers.coefficient rest7)

pub returns : goal.returns
returns c =
    let last = joined _ _ _ _ c.in_ok-_coefficient.ensures.1 c.in_ok-end.ensures in
    let from_exponent2 = joined _ _ _ _ c.in_ok-_exponent2.ensures.1 last in
    let from_exponent1 = joined _ _ _ _ c.in_ok-_exponent1.ensures.1 from_exponent2 in
    let from_prime2 = joined _ _ _ _ c.in_ok-_prime2.ensures.1 from_exponent1 in
    let from_prime1 = joined _ _ _ _ c.in_ok-_prime1.ensures.1 from_prime2 in
    let from_private_exponent = joined _ _ _ _ c.in_ok-_private_exponent.ensures.1 from_prime1 in
    let from_public_exponent = joined _ _ _ _ c.in_ok-public_exponent.ensures.1 from_private_exponent in
    let from_modulus = joined _ _ _ _ c.in_ok-modulus.ensures.1 from_public_exponent in
    let all = joined_as _ _ _ _ _ c.in_ok-next.ensures c.in_ok-expect_leaf.ensures from_modulus in (
      record {
        modulus = c.in_ok-modulus.modulus.now;
        public_exponent = c.in_ok-public_exponent.public_exponent.now;
        private_exponent = c.in_ok-_private_exponent._private_exponent.now;
        prime1 = c.in_ok-_prime1._prime1.now;
        prime2 = c.in_ok-_prime2._prime2.now;
        exponent1 = c.in_ok-_exponent1._exponent1.now;
        exponent2 = c.in_ok-_exponent2._exponent2.now;
        coefficient = c.in_ok-_coefficient._coefficient.now;
      },
      record {
        modulus = c.in_ok-modulus.ensures.0;
        public_exponent = c.in_ok-public_exponent.ensures.0;
        private_exponent = c.in_ok-_private_exponent.ensures.0;
        prime1 = c.in_ok-_prime1.ensures.0;
        prime2 = c.in_ok-_prime2.ensures.0;
        exponent1 = c.in_ok-_exponent1.ensures.0;
        exponent2 = c.in_ok-_exponent2.ensures.0;
        coefficient = c.in_ok-_coefficient.ensures.0;
      },
      c.in_ok-kids.ensures ∙ ap sequence all,
      refl,
      refl,
    )
