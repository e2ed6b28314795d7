use Rattle.std.proofs.Common.{◌≡◌, ◌+◌, ◌*◌, take}
use Rattle.der_core.specs.DerElement.{row, element_count, elements_count}
use Rattle.der_core.proofs.tree.+copying.Given as goal

abbrev pub decreases-copy_of : goal.decreases-copy_of
decreases-copy_of l = 2 * element_count l.tree.now

abbrev pub decreases-copies_of : goal.decreases-copies_of
decreases-copies_of l = 2 * elements_count (row l.kids.now) + 1

abbrev pub invariant-copies_of-loop-kid : goal.invariant-copies_of-loop-kid
invariant-copies_of-loop-kid l = l.copies ≡ take l.kid-index l.kids
