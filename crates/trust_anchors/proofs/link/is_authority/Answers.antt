use Rattle.std.proofs.Common.{refl}
use Rattle.x509_core.proofs.Depths.{flag_is, no_flag}
use Rattle.trust_anchors.proofs.link.is_authority.Goals as goal

pub returns-in-Some : goal.returns-in-Some
returns-in-Some c = flag_is _ _ c.in-Some.ca refl c.in-Some.ensures

pub returns-in-None : goal.returns-in-None
returns-in-None c = no_flag _ _ refl c.in-None.ensures
