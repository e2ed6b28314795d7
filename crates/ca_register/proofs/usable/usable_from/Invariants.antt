use Rattle.std.proofs.Common.{◌<◌, length}
use Rattle.ca_register.proofs.Walking.{IsUsableSoFar}
use Rattle.ca_register.proofs.usable.usable_from.Given as goal

-- the walk so far
abbrev pub invariant-loop-above : goal.invariant-loop-above
invariant-loop-above l = record {
  within : l.at < length l.entries;
  usable : IsUsableSoFar l.entries l.place l.at l.from l.to;
}

abbrev pub decreases-loop-above : goal.decreases-loop-above
decreases-loop-above l = l.at
