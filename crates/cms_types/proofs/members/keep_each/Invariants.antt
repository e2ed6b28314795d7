use Rattle.std.proofs.Common.{length}
use Rattle.cms_types.proofs.Several.{AreKept}
use Rattle.cms_types.proofs.members.keep_each.Given as goal

abbrev pub invariant-loop-value : goal.invariant-loop-value
invariant-loop-value g l = AreKept g.T.Structure.inner g.T.Structure.written l.values l.rest l.kept

abbrev pub decreases-loop-value : goal.decreases-loop-value
decreases-loop-value g l = length l.rest
