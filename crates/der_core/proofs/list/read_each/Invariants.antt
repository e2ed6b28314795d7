use Rattle.std.proofs.Common.{length}
use Rattle.der_core.proofs.SoFar.{AreFirst}
use Rattle.der_core.proofs.list.read_each.Given as goal

abbrev pub invariant-loop-kid : goal.invariant-loop-kid
invariant-loop-kid g l = AreFirst g.T.Structure.spells l.initial.kids.are.0 l.kids.are.0 l.values

abbrev pub decreases-loop-kid : goal.decreases-loop-kid
decreases-loop-kid g l = length l.kids.are.0
