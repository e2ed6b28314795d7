use Rattle.std.proofs.Common.{length}
use Rattle.der_core.proofs.kids.Kids.room.Given as goal

abbrev pub decreases-loop-self : goal.decreases-loop-self
decreases-loop-self l = length l.self.are.0
