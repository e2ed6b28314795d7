use Rattle.std.proofs.Common.{◌<◌, length}
use Rattle.xgolden_der.proofs.walk.+count_within.Given as goal

abbrev pub decreases-count_within : goal.decreases-count_within
decreases-count_within l = l.levels

abbrev pub invariant-loop-elem : goal.invariant-loop-elem
invariant-loop-elem l = l.inner < l.levels

abbrev pub decreases-loop-elem : goal.decreases-loop-elem
decreases-loop-elem l = length l.cursor.rest.now
