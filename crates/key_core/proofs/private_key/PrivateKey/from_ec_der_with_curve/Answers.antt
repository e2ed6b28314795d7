use Rattle.std.proofs.Common.{ap}
use Rattle.std.specs.Prelude.{Err}
use Rattle.key_core.proofs.Refusing.{key_is_not_refused, error_is, sec1_known}
use Rattle.key_core.proofs.private_key.PrivateKey.from_ec_der_with_curve.Goals as goal

pub returns-in-Ok-clause-answer : goal.returns-in-Ok-clause-answer
returns-in-Ok-clause-answer g c = sec1_known _ _ _ _ c.in-Ok.ensures.answer _ c.known_curve_key.ensures

pub returns-in-Ok-clause-faulty : goal.returns-in-Ok-clause-faulty
returns-in-Ok-clause-faulty g c = λ at fault is. absurd (key_is_not_refused _ _ (c.in-Ok.ensures.faulty at fault is))

pub returns-in-Err-clause-faulty : goal.returns-in-Err-clause-faulty
returns-in-Err-clause-faulty g c = λ at fault is. ap Err (error_is _ _ (c.in-Err.ensures.faulty at fault is))
