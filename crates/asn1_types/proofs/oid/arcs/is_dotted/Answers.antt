use Rattle.std.proofs.Common.{length, arith, lit<, ◌∙◌, rules}
use Rattle.std.specs.List.{slice_split}
use Rattle.std.proofs.lemmas.Iterator.Splits.{YieldsList-from_str_split}
use Rattle.std.proofs.lemmas.Iterator.Consumers.{YieldsList-turn, YieldsList-end}
use Rattle.std.proofs.lemmas.List.{take_all, length_push}
use Rattle.asn1_types.proofs.Dotted.{is_dot, bad_piece}
use Rattle.asn1_types.proofs.FirstArcs.{behind_none, behind_one, behind_two, dotted_by_root, no_first_no_second, none_of, not_dotted, one_more_seen, some_of}
use Rattle.asn1_types.proofs.oid.arcs.is_dotted.Goals as goal

pub returns-in_default : goal.returns-in_default
returns-in_default c =
    let turn = YieldsList-turn (YieldsList-from_str_split 46 c.args.text.now (lit< tt) (cc) (cc) (cc))
    c.loop-piece.yielded _ c.loop-piece.yielded_by _ _ c.in-Some.piece c.in-Some.is c.next.ensures.steps in
    (λ w. absurd cc, λ t. absurd (bad_piece c.args.text.now (length c.loop-piece.yielded) c.in-Some.piece.now turn.0 turn.1 c.in_default.ensures t))

pub loop-piece-preserved-then-is_none : goal.loop-piece-preserved-then-is_none
loop-piece-preserved-then-is_none c =
    let turn = YieldsList-turn (YieldsList-from_str_split 46 c.args.text.now (lit< tt) (cc) (cc) (cc))
    c.loop-piece.yielded _ c.loop-piece.yielded_by _ _ c.in-Some.piece c.in-Some.is c.next.ensures.steps in
    let seen = c.loop-piece.invariant.2 in
    let none = seen.first_is ∙ none_of c.loop-piece.first _ c.is_none.ensures c.if-is_none.true in
    let kept = behind_none seen.arcs c.in-Some-arc_of.arc none in (
      tt,
      tt,
      one_more_seen c.args.text.now _ _ _ _ _ _ c.in-Some.piece.now c.in-Some-arc_of.arc seen c.in-Some-arc_of.ensures.0 turn.0 turn.1
          c.in-Some-arc_of.ensures.1 (length_push c.loop-piece.yielded c.in-Some.piece) (kept.0, kept.1 ∙ seen.second_is),
    )

pub loop-piece-preserved-then-is_none-2 : goal.loop-piece-preserved-then-is_none-2
loop-piece-preserved-then-is_none-2 c =
    let turn = YieldsList-turn (YieldsList-from_str_split 46 c.args.text.now (lit< tt) (cc) (cc) (cc))
    c.loop-piece.yielded _ c.loop-piece.yielded_by _ _ c.in-Some.piece c.in-Some.is c.next.ensures.steps in
    let seen = c.loop-piece.invariant.2 in
    let some = some_of c.loop-piece.first _ c.is_none.ensures c.if-is_none.false in
    let none = seen.second_is ∙ none_of c.loop-piece.second _ c.is_none-else-is_none.ensures c.if-is_none-2.true in
    let kept = behind_one seen.arcs c.in-Some-arc_of.arc some.0 (seen.first_is ∙ some.1) none in (
      tt,
      tt,
      one_more_seen c.args.text.now _ _ _ _ _ _ c.in-Some.piece.now c.in-Some-arc_of.arc seen c.in-Some-arc_of.ensures.0 turn.0 turn.1
          c.in-Some-arc_of.ensures.1 (length_push c.loop-piece.yielded c.in-Some.piece) (kept.0 ∙ seen.first_is, kept.1),
    )

pub loop-piece-preserved : goal.loop-piece-preserved
loop-piece-preserved c =
    let turn = YieldsList-turn (YieldsList-from_str_split 46 c.args.text.now (lit< tt) (cc) (cc) (cc))
    c.loop-piece.yielded _ c.loop-piece.yielded_by _ _ c.in-Some.piece c.in-Some.is c.next.ensures.steps in
    let seen = c.loop-piece.invariant.2 in
    let some = some_of c.loop-piece.second _ c.is_none-else-is_none.ensures c.if-is_none-2.false in
    let kept = behind_two seen.arcs c.in-Some-arc_of.arc some.0 (seen.second_is ∙ some.1) in (
      tt,
      tt,
      one_more_seen c.args.text.now _ _ _ _ _ _ c.in-Some.piece.now c.in-Some-arc_of.arc seen c.in-Some-arc_of.ensures.0 turn.0 turn.1
          c.in-Some-arc_of.ensures.1 (length_push c.loop-piece.yielded c.in-Some.piece) (kept.0 ∙ seen.first_is, kept.1 ∙ seen.second_is),
    )

pub returns : goal.returns
returns c =
    let end = YieldsList-end (YieldsList-from_str_split 46 c.args.text.now (lit< tt) (cc) (cc) (cc))
    c.loop-piece.yielded _ c.loop-piece.yielded_by _ _ c.in-None.is c.next.ensures.steps in
    let pieces = slice_split is_dot c.args.text.now in
    let seen = c.loop-piece.invariant.2 in
    let all = seen.are ∙ take_all (length c.loop-piece.yielded) pieces (omega (arith, end.1)) in
    rw c.is_some.ensures (dotted_by_root c.args.text.now seen.arcs c.in-Some-Some.first c.in-Some-Some.second c.root_of.result all seen.bounded
    (seen.first_is ∙ c.in-Some-Some.is-0) (seen.second_is ∙ c.in-Some-Some.is-1) (search rules))

pub returns-in_default-2 : goal.returns-in_default-2
returns-in_default-2 c =
    let end = YieldsList-end (YieldsList-from_str_split 46 c.args.text.now (lit< tt) (cc) (cc) (cc))
    c.loop-piece.yielded _ c.loop-piece.yielded_by _ _ c.in-None.is c.next.ensures.steps in
    let pieces = slice_split is_dot c.args.text.now in
    let seen = c.loop-piece.invariant.2 in
    let all = seen.are ∙ take_all (length c.loop-piece.yielded) pieces (omega (arith, end.1)) in
    (λ w. absurd cc, λ t. absurd (not_dotted c.args.text.now seen.arcs all seen.bounded (seen.second_is ∙ c.in_default-2.is-1) t))

pub returns-in_default-2-2 : goal.returns-in_default-2-2
returns-in_default-2-2 c =
    let end = YieldsList-end (YieldsList-from_str_split 46 c.args.text.now (lit< tt) (cc) (cc) (cc))
    c.loop-piece.yielded _ c.loop-piece.yielded_by _ _ c.in-None.is c.next.ensures.steps in
    let pieces = slice_split is_dot c.args.text.now in
    let seen = c.loop-piece.invariant.2 in
    let all = seen.are ∙ take_all (length c.loop-piece.yielded) pieces (omega (arith, end.1)) in
    (λ w. absurd cc, λ t. absurd (not_dotted c.args.text.now seen.arcs all seen.bounded (no_first_no_second seen.arcs (seen.first_is ∙ c.in_default-2.is-0)) t))
