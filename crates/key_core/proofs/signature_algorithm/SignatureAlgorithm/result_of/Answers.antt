use Rattle.std.proofs.Common.{inl, subst}
use Rattle.key_core.specs.Verifying.{IsJudged}
use Rattle.key_core.proofs.Verifications.{malformed_is_broken}
use Rattle.key_core.proofs.signature_algorithm.SignatureAlgorithm.result_of.Goals as goal

pub returns-in-Malformed : goal.returns-in-Malformed
returns-in-Malformed c = λ judge info msg sig judged.
    rw c.malformed.ensures
    (inl (malformed_is_broken judge c.args.self info msg sig (subst (λ verdict. IsJudged judge c.args.self info msg sig verdict) c.in-Malformed.is judged)))
