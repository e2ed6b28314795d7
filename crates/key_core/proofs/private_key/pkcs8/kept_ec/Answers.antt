use Rattle.key_core.proofs.Refusing.{on_parameters}
use Rattle.key_core.proofs.private_key.pkcs8.kept_ec.Goals as goal

pub returns-in-Ok : goal.returns-in-Ok
returns-in-Ok g c = on_parameters _ _ _ _ _ c.in-Some.ensures c.in-Ok.ensures.read _ c.curve_key.ensures
