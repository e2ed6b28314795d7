use Rattle.std.proofs.Common.{rules, sym, subst}
use Rattle.std.proofs.lemmas.Bool.{iff_false}
use Rattle.der_core.specs.Borrowed.{IsElem}
use Rattle.der_core.proofs.InOctets.{head_left, first_there, next_are}
use Rattle.der_core.proofs.kids.Kids.next.Goals as goal

pub known_head-head-requires : goal.known_head-head-requires
known_head-head-requires c = head_left _ c.args.self.now.are (iff_false c.is_empty.ensures c.if-is_empty.false)

pub invariant_of-self : goal.invariant_of-self
invariant_of-self c =
    let n = first_there _ c.args.self.now.are _ _ _ c.known_head-head.ensures.0 in
    record { are = (n.others, n.left) }

pub invariant_of-result : goal.invariant_of-result
invariant_of-result c =
    let n = first_there _ c.args.self.now.are _ _ _ c.known_head-head.ensures.0 in
    let head = c.known_head-head.result in
    record { is = (n.element, subst (λ w. IsElem w head.tag head.contents.now n.element) (sym c.split_at.ensures.front) n.is) }

pub returns : goal.returns
returns c = next_are _ c.args.self.now.are _ _ _ _ _ _ c.known_head-head.ensures.0 c.split_at.ensures.front (search rules) (search rules)
