use Rattle.std.proofs.Common.{length}
use Rattle.authenticode_core.specs.LeftMembers.{left_members}
use Rattle.xgolden_check.proofs.path.places_of.Given as goal

-- each step of the walk leaves fewer members
abbrev pub decreases-loop-next : goal.decreases-loop-next
decreases-loop-next l = length (left_members l.walk.bag.members)
