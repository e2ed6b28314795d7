use Rattle.std.proofs.Common.{◌≡◌, ◌+◌, ◌<◌, ◌^◌, Some, length}
use Rattle.authenticode_core.proofs.form.count_within.Given as goal
use Rattle.der_core.specs.Optional.{members_of}

-- the counted elements and those that are left are all
abbrev pub invariant-loop-kid : goal.invariant-loop-kid
invariant-loop-kid l = record {
  all : l.count + length l.kids.are.0 ≡ length (members_of (Some l.elem.is.0));
  bounded : length (members_of (Some l.elem.is.0)) < 2 ^ 32;
}

abbrev pub decreases-loop-kid : goal.decreases-loop-kid
decreases-loop-kid l = length l.kids.are.0
