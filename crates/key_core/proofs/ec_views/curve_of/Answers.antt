use Rattle.key_core.proofs.Algorithms.{no_curve_lacks}
use Rattle.key_core.proofs.ec_views.curve_of.Goals as goal

pub unreachable-requires : goal.unreachable-requires
unreachable-requires c = no_curve_lacks _ c.requires c.in-None.ensures
