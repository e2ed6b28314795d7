use Rattle.std.proofs.Common.{◌∙◌, ◌<◌, ap, arith}
use Rattle.sig_core.specs.Algorithm.{name_of}
use Rattle.sig_core.proofs.Names.{has_each}
use Rattle.sig_core.proofs.algorithm.SigAlg.from_name.Goals as goal

pub returns-clause-named : goal.returns-clause-named
returns-clause-named c alg e =
    let has = has_each alg in
    let within : has.0 < c.loop-alg.alg-index = omega (arith, has.1) in
    absurd (c.loop-alg.invariant has.0 alg within (ap name_of has.2 ∙ e))
