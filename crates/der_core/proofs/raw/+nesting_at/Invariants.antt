use Rattle.std.proofs.Common.{◌≡◌, max, length}
use Rattle.der_core.specs.DerElement.{row}
use Rattle.der_core.specs.Encoding.{nesting, deepest}
use Rattle.der_core.proofs.raw.+nesting_at.Given as goal

abbrev pub decreases-nesting_at : goal.decreases-nesting_at
decreases-nesting_at l = nesting l.elem.is.0

-- the deepest of the kids so far, or of those that are left
abbrev pub invariant-loop-kid : goal.invariant-loop-kid
invariant-loop-kid l = max l.deepest (deepest (row l.kids.are.0)) ≡ deepest (row l.initial.kids.are.0)

abbrev pub decreases-loop-kid : goal.decreases-loop-kid
decreases-loop-kid l = length l.kids.are.0
