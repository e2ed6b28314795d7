use Rattle.der_core.proofs.Several.{list_around}
use Rattle.der_core.proofs.list.read_list.Goals as goal

pub returns-in-Some : goal.returns-in-Some
returns-in-Some g c = list_around g.T.Structure.spells _ _ _ c.in-Some.ensures _ c.read_each.ensures
