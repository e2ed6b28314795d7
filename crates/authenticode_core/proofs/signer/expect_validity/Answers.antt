use Rattle.std.proofs.Common.{subst}
use Rattle.x509_core.specs.Link.{IsOutside}
use Rattle.x509_core.specs.Rules.{Breaks}
use Rattle.x509_core.specs.Window.{IsWithinWindow}
use Rattle.x509_core.specs.declared.validator.ChainChecks.{ChainChecks}
use Rattle.authenticode_core.proofs.signer.expect_validity.Goals as goal

pub returns-in-Ok : goal.returns-in-Ok
returns-in-Ok g c =
    λ bag place is. subst (λ (checks : ChainChecks). IsWithinWindow checks.window c.args.signer.now.elements) c.checks-checks.ensures c.in-Ok.ensures.answer

pub returns-in-Err : goal.returns-in-Err
returns-in-Err g c = λ bag place is.
    let breaks =
    subst (λ (checks : ChainChecks). Breaks (IsOutside checks.window c.args.signer.now) c.in-Err.error) c.checks-checks.ensures c.in-Err.ensures.answer in
    c.expect_excuse.ensures bag place c.args.signer.now is c.requires breaks
