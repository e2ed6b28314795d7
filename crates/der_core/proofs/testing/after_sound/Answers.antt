use Rattle.std.proofs.lemmas.Bool.{iff_false}
use Rattle.der_core.specs.DerElement.{Primitive, Constructed}
use Rattle.der_core.proofs.Elements.{leaf_read, branch_read}
use Rattle.der_core.proofs.testing.after_sound.Goals as goal

pub returns-then-not-is_constructed : goal.returns-then-not-is_constructed
returns-then-not-is_constructed c =
    let head = c.in_ok-head.head in
    let read = leaf_read c.in_ok-head.ensures.0 (iff_false c.in_ok-head.ensures.1 c.if-not-is_constructed.true) in
    (Primitive head.tag head.contents.now, read.0, read.1)

pub returns-then-are_elements : goal.returns-then-are_elements
returns-then-are_elements c =
    let kids = c.are_elements.ensures c.if-are_elements.true in
    let read = branch_read kids.0 c.in_ok-head.ensures.0 (c.in_ok-head.ensures.1.0 c.if-not-is_constructed.false) kids.1 kids.2 in
    (Constructed c.in_ok-head.head.tag kids.0, read.0, read.1)
