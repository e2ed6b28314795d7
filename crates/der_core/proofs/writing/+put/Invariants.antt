use Rattle.std.proofs.Common.{◌≡◌, ◌++◌, ◌+◌, ◌*◌, drop}
use Rattle.std.specs.Prelude.{reverse}
use Rattle.der_core.specs.DerElement.{row, element_count, elements_count}
use Rattle.der_core.specs.Encoding.{encodings, AreShort}
use Rattle.der_core.proofs.writing.+put.Given as goal

-- the kids from i on are there, last first
abbrev pub invariant-put_elements-loop-i : goal.invariant-put_elements-loop-i
invariant-put_elements-loop-i l =
    AreShort (row (drop l.i l.kids)) × (l.out.items ≡ l.fn.out.items ++ reverse (encodings (row (drop l.i l.kids))))

-- elements that are still to be put, those of a list after the one around them
abbrev pub decreases-put_element : goal.decreases-put_element
decreases-put_element l = 2 * element_count l.tree.now

abbrev pub decreases-put_elements : goal.decreases-put_elements
decreases-put_elements l = 2 * elements_count (row l.kids.now) + 1
