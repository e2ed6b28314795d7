use Rattle.key_core.proofs.Refusing.{on_known_curve}
use Rattle.key_core.proofs.private_key.sec1.known_curve_key.Goals as goal

pub returns : goal.returns
returns g c = on_known_curve _ _ c.in_ok-oid.oid _ c.in_ok-oid.ensures _ c.curve_key.ensures
