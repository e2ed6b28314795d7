-- A kid of a tree is smaller than the tree.
use Rattle.std.specs.Prelude.{◌+◌, ◌≤◌, max, List, [], ◌∷◌}
use Rattle.std.proofs.Common.{arith}
use denote.Param.Weighed.{most}
use Rattle.der_core.specs.DerElement.{DerElement, element_count, elements_count, row}
use Rattle.der_core.specs.TreeView.{element_of}
use Rattle.der_core.specs.declared.tree.Form.{Form}
use Rattle.der_core.specs.declared.tree.Form.TheVariants as forms
use Rattle.der_core.specs.declared.tree.Tree.TheDeep.{deep-Form}

most_le-count : (kids : List DerElement) → most (λ kid. element_count kid + 1) kids ≤ elements_count (row kids) + 1
most_le-count [] = omega arith
most_le-count (kid ∷ kids) = omega (arith, most_le-count kids)

pub kids_are_fewer : (form : Form) → max (deep-Form form) 0 ≤ element_count (element_of form)
kids_are_fewer (forms.Primitive tag content) = omega arith
kids_are_fewer (forms.Constructed tag kids) = omega (arith, most_le-count kids.items)
