use Rattle.std.proofs.Common.{length}
use Rattle.der_core.proofs.SoFar.{AreFirstWritten}
use Rattle.der_core.proofs.list.write_each.Given as goal

abbrev pub invariant-loop-value : goal.invariant-loop-value
invariant-loop-value g l = AreFirstWritten g.T.Structure.written g.T.Structure.inner l.values l.rest l.kids.kids

abbrev pub decreases-loop-value : goal.decreases-loop-value
decreases-loop-value g l = length l.rest
