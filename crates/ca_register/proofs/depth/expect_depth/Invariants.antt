use Rattle.std.proofs.Common.{◌<◌, ◌≤◌, ◌+◌, length}
use Rattle.ca_register.proofs.Walking.{IsDeepSoFar}
use Rattle.ca_register.proofs.depth.expect_depth.Given as goal

-- the walk so far
abbrev pub invariant-loop-above : goal.invariant-loop-above
invariant-loop-above l = record {
  within : l.at < length l.entries;
  few : l.number + l.at ≤ l.issuer;
  deep : IsDeepSoFar l.entries l.issuer l.number l.at;
}

abbrev pub decreases-loop-above : goal.decreases-loop-above
decreases-loop-above l = l.at
