use Rattle.std.proofs.Common.{length}
use Rattle.xgolden_der.proofs.answer.push_elements.Given as goal

abbrev pub decreases-loop-elem : goal.decreases-loop-elem
decreases-loop-elem l = length l.cursor.rest.now
