use Rattle.std.proofs.Common.{◌≢◌, ℕ, ◌<◌, get_or}
use Rattle.key_core.specs.declared.ec_curve.EcCurve.{EcCurve}
use Rattle.key_core.specs.EcCurve.{curve_identifier}
use Rattle.key_core.proofs.ec_curve.EcCurve.named.Given as goal

-- no curve so far has the OID
abbrev pub invariant-loop-curve : goal.invariant-loop-curve
invariant-loop-curve l =
    (k : ℕ) (d : EcCurve) → k < l.curve-index → curve_identifier (get_or l.curve-items k d) ≢ l.oid
