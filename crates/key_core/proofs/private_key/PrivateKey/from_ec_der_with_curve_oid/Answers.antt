use Rattle.std.proofs.Common.{ap}
use Rattle.std.specs.Prelude.{Err}
use Rattle.key_core.proofs.Refusing.{key_is_not_refused, error_is}
use Rattle.key_core.proofs.private_key.PrivateKey.from_ec_der_with_curve_oid.Goals as goal

pub returns-in-Ok-clause-faulty : goal.returns-in-Ok-clause-faulty
returns-in-Ok-clause-faulty g c = λ at fault is. absurd (key_is_not_refused _ _ (c.in-Ok.ensures.faulty at fault is))

pub returns-clause-faulty : goal.returns-clause-faulty
returns-clause-faulty g c = λ at fault is. ap Err (error_is _ _ (c.in-Err.ensures.faulty at fault is))

pub returns-in-Ok-clause-shapeless : goal.returns-in-Ok-clause-shapeless
returns-in-Ok-clause-shapeless g c = λ element der is none. absurd (key_is_not_refused _ _ (c.in-Ok.ensures.shapeless element der is none))

pub returns-clause-shapeless : goal.returns-clause-shapeless
returns-clause-shapeless g c = λ element der is none. ap Err (error_is _ _ (c.in-Err.ensures.shapeless element der is none))
