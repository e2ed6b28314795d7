use Rattle.std.proofs.Common.{◌∙◌, ◌<◌, ap, arith}
use Rattle.key_core.specs.EdAlgorithm.{ed_identifier}
use Rattle.key_core.proofs.Curves.{has_algorithm}
use Rattle.key_core.proofs.ed_algorithm.EdAlgorithm.named.Goals as goal

pub returns-clause-named : goal.returns-clause-named
returns-clause-named c algorithm e =
    let has = has_algorithm algorithm in
    let within : has.0 < c.loop-algorithm.algorithm-index = omega (arith, has.1) in
    absurd (c.loop-algorithm.invariant has.0 algorithm within (ap ed_identifier has.2 ∙ e))
