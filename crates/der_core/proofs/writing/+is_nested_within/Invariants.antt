use Rattle.std.proofs.Common.{◌≤◌, ◌<◌, ◌-◌, ◌↔◌, drop}
use Rattle.der_core.specs.DerElement.{row}
use Rattle.der_core.specs.Encoding.{deepest}
use Rattle.der_core.proofs.writing.+is_nested_within.Given as goal

abbrev pub decreases-is_nested_within : goal.decreases-is_nested_within
decreases-is_nested_within l = l.levels

-- the kids seen so far are no deeper
abbrev pub invariant-loop-kid : goal.invariant-loop-kid
invariant-loop-kid l =
    (0 < l.levels) × ((deepest (row l.kids) ≤ l.levels - 1) ↔ (deepest (row (drop l.kid-index l.kids)) ≤ l.levels - 1))
