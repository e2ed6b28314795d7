use Rattle.std.proofs.Common.{subst, ◌⊎◌, ◌≡◌, MatchResult}
use Rattle.x509_core.specs.declared.error.CertError.TheVariants as cert_errors
use Rattle.x509_core.specs.declared.validator.ChainChecks.{ChainChecks}
use Rattle.authenticode_core.specs.Inside.PolicySteps.{IsUnlinkedPath}
use Rattle.authenticode_core.specs.LinkedPath.{IsVouchedPath}
use Rattle.authenticode_core.specs.Policy.{window_of}
use Rattle.authenticode_core.proofs.SignerOrder.{asked_path, unasked_path}
use Rattle.authenticode_core.proofs.signer.asked_path.Goals as goal

pub returns-then-not-policy : goal.returns-then-not-policy
returns-then-not-policy g c = λ bag is.
    unasked_path (g.S.Scheme.judge c.args.scheme.now) (window_of c.args.policy.now)
    bag c.args.signer c.args.policy.now.chain c.new.result c.if-not-policy.true c.new.ensures

pub returns : goal.returns
returns g c = λ bag is.
    let judge = g.S.Scheme.judge c.args.scheme.now in
    let linked = subst (λ (checks : ChainChecks). MatchResult c.linked_path.result (IsVouchedPath judge checks.window bag c.args.signer)
    (λ e. IsUnlinkedPath judge checks.window bag c.args.signer e ⊎ (e ≡ cert_errors.Memory))) c.checks-checks.ensures (c.linked_path.ensures bag is) in
    asked_path judge (window_of c.args.policy.now) bag c.args.signer c.args.policy.now.chain c.linked_path.result c.if-not-policy.false linked
