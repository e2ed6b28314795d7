use Rattle.key_core.proofs.Refusing.{on_own_curve}
use Rattle.key_core.proofs.private_key.sec1.own_curve_key.Goals as goal

pub returns-in-Some : goal.returns-in-Some
returns-in-Some g c = on_own_curve _ _ _ c.in-Some.is _ c.curve_key.ensures
