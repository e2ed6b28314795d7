use Rattle.std.proofs.Common.{◌∙◌, ◌<◌, Some, ap, arith}
use Rattle.key_core.specs.SignatureAlgorithm.{signature_identifier}
use Rattle.key_core.proofs.SignatureIdentifiers.{has_algorithm, is_there, same_algorithm}
use Rattle.key_core.proofs.signature_algorithm.SignatureAlgorithm.named.Goals as goal

pub returns-clause-named : goal.returns-clause-named
returns-clause-named c algorithm e =
    let has = has_algorithm algorithm (is_there algorithm _ e) in
    let within : has.0 < c.loop-algorithm.algorithm-index = omega (arith, has.1) in
    absurd (c.loop-algorithm.invariant has.0 algorithm within (ap signature_identifier has.2 ∙ e))

pub returns-then-has_identifier-clause-named : goal.returns-then-has_identifier-clause-named
returns-then-has_identifier-clause-named c = λ algorithm e. ap Some (same_algorithm _ algorithm _ (c.has_identifier.ensures.0 c.if-has_identifier.true) e)
