use Rattle.std.proofs.Common.{List, ℕ, Some, sym, ap, ◌∙◌}
use Rattle.der_core.specs.Encoding.{encoding}
use Rattle.sig_core.specs.RsaSecret.{rsa_public_element}
use Rattle.sig_core.proofs.DemoKeys.{rsa_key_is}
use Rattle.sig_core.proofs.demo_scheme.rsa_key.Goals as goal

pub returns-in_ok-public_key-in-Some-clause-derived : goal.returns-in_ok-public_key-in-Some-clause-derived
returns-in_ok-public_key-in-Some-clause-derived c =
    let rsa = c.in-Some.ensures in
    rsa_key_is c.args.secret.now rsa.0
    ∙ ap (λ (n : List ℕ). Some (encoding (rsa_public_element n rsa.0.numbers.public_exponent))) rsa.1
    ∙ ap (λ (e : List ℕ). Some (encoding (rsa_public_element c.in-Some.secret.modulus.now e))) rsa.2
    ∙ ap Some (sym c.in_ok-public_key-in-Some.ensures.written)
