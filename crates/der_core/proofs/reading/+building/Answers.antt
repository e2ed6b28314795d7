use Rattle.std.proofs.Common.{◌++◌, ◌∷◌, [], ap, sym, ◌∙◌, arith, append_assoc}
use Rattle.der_core.specs.DerElement.{Constructed, row}
use Rattle.der_core.proofs.Siblings.{kid_first, with_kids, count_around}
use Rattle.der_core.proofs.reading.+building.Goals as goal

pub tree_of-trees_of-requires : goal.tree_of-trees_of-requires
tree_of-trees_of-requires t c =
    (omega (arith, count_around _ _ _ c.args.elem.is.1.2 c.in-Some.ensures, c.decreases), tt)

pub tree_of-returns-in_ok-trees_of-in-Some : goal.tree_of-returns-in_ok-trees_of-in-Some
tree_of-returns-in_ok-trees_of-in-Some t c =
    c.branch-branch.ensures ∙ ap (λ kids. Constructed c.args.elem.tag (row kids)) c.in_ok-trees_of-in-Some.ensures
    ∙ sym (with_kids _ _ _ c.args.elem.is.1.2 c.in-Some.ensures)

pub trees_of-tree_of-requires : goal.trees_of-tree_of-requires
trees_of-tree_of-requires t c =
    (omega (arith, kid_first _ _ _ c.in-Some.ensures, c.loop-kid.invariant.fewer, c.decreases), tt)

pub trees_of-loop-kid-preserved : goal.trees_of-loop-kid-preserved
trees_of-loop-kid-preserved t c =
    let kid = c.in_ok-tree_of.ensures in
    let grown = c.in_ok-push.ensures.ok in
    record {
      fewer = omega (arith, kid_first _ _ _ c.in-Some.ensures, c.loop-kid.invariant.fewer);
      parts = c.loop-kid.invariant.parts ∙ ap (λ rest. c.loop-kid.trees ++ rest) (c.in-Some.ensures ∙ ap (λ k. k ∷ c.next.new.self.are.0) (sym kid))
          ∙ sym (append_assoc c.loop-kid.trees (_ ∷ []) c.next.new.self.are.0) ∙ ap (λ trees. trees ++ c.next.new.self.are.0) (sym grown);
    }
