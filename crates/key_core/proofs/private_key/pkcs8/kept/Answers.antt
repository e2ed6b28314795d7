use Rattle.key_core.proofs.Refusing.{kept_as_ec}
use Rattle.key_core.proofs.private_key.pkcs8.kept.Goals as goal

pub returns-in-Ec : goal.returns-in-Ec
returns-in-Ec g c = kept_as_ec _ _ _ c.in-Ec.is _ c.kept_ec.ensures
