use Rattle.std.proofs.Common.{◌≡◌, ◌++◌, ◌+◌, ◌*◌, ◌≤◌, length}
use Rattle.der_core.specs.DerElement.{row, element_count, elements_count}
use Rattle.der_core.proofs.reading.+building.Given as goal

abbrev pub decreases-tree_of : goal.decreases-tree_of
decreases-tree_of l = 2 * element_count l.elem.is.0

abbrev pub decreases-trees_of : goal.decreases-trees_of
decreases-trees_of l = 2 * elements_count (row l.kids.are.0) + 1

abbrev pub invariant-trees_of-loop-kid : goal.invariant-trees_of-loop-kid
invariant-trees_of-loop-kid l = record {
  fewer : elements_count (row l.kids.are.0) ≤ elements_count (row l.initial.kids.are.0);
  parts : l.initial.kids.are.0 ≡ l.trees ++ l.kids.are.0;
}

abbrev pub decreases-trees_of-loop-kid : goal.decreases-trees_of-loop-kid
decreases-trees_of-loop-kid l = length l.kids.are.0
