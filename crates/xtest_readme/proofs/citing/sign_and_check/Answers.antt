use Rattle.std.proofs.Common.{List, ◌∷◌, ℕ, subst, sym}
use Rattle.authenticode_core.specs.declared.policy.Policy.{Policy}
use Rattle.authenticode_signature.specs.MadeFile.{IsCheckedBy, IsMadeSignature}
use Rattle.xtest_readme.proofs.citing.sign_and_check.Goals as goal

pub returns : goal.returns
returns g c = λ history issued index step ancestors cert parents info date now are w has_step valid has pairs policy.
    let judge = g.S.Scheme.judge c.args.scheme.now in
    let made = c.in_ok-file.ensures history issued index ancestors cert parents info are w has pairs in
    let octets : List ℕ = c.deref.result.now in
    let file : IsMadeSignature judge cert.elements made.0 octets c.args.digest.now =
    subst (λ (os : List ℕ). IsMadeSignature judge cert.elements made.0 os c.args.digest.now) (sym c.deref.ensures.value) made.2 in
    let checked = subst (λ (p : Policy). IsCheckedBy judge p (cert.elements ∷ made.0) octets c.args.digest.now c.check_made.result) policy
    (c.check_made.ensures.over cert.elements made.0 c.args.digest.now file) in
    c.histories_decide_made_signatures.ensures.decided judge history issued index step ancestors cert parents made.0 date now octets c.args.digest.now
    c.check_made.result w has_step valid made.1 checked
