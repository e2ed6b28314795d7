use Rattle.std.proofs.Common.{◌∙◌, ◌<◌, ap, arith}
use Rattle.key_core.specs.EcCurve.{curve_identifier}
use Rattle.key_core.proofs.Curves.{has_curve}
use Rattle.key_core.proofs.ec_curve.EcCurve.named.Goals as goal

pub returns-clause-named : goal.returns-clause-named
returns-clause-named c curve e =
    let has = has_curve curve in
    let within : has.0 < c.loop-curve.curve-index = omega (arith, has.1) in
    absurd (c.loop-curve.invariant has.0 curve within (ap curve_identifier has.2 ∙ e))
