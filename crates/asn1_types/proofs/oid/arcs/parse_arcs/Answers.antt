use Rattle.std.proofs.Common.{length, arith, lit<, ◌∙◌, rules}
use Rattle.std.specs.List.{slice_split}
use Rattle.std.proofs.lemmas.Iterator.Splits.{YieldsList-from_str_split}
use Rattle.std.proofs.lemmas.Iterator.Consumers.{YieldsList-turn, YieldsList-end}
use Rattle.std.proofs.lemmas.List.{take_all, length_push}
use Rattle.asn1_types.proofs.Dotted.{is_dot, dotted_from_pieces, bad_piece, one_more_piece, one_more_bounded}
use Rattle.asn1_types.proofs.oid.arcs.parse_arcs.Goals as goal

pub returns-in_default : goal.returns-in_default
returns-in_default c =
    let turn = YieldsList-turn (YieldsList-from_str_split 46 c.args.text.now (lit< tt) (cc) (cc) (cc))
    c.loop-piece.yielded _ c.loop-piece.yielded_by _ _ c.in-Some.piece c.in-Some.is c.next.ensures.steps in
    bad_piece c.args.text.now (length c.loop-piece.yielded) c.in-Some.piece.now turn.0 turn.1 c.in_default.ensures

pub loop-piece-preserved : goal.loop-piece-preserved
loop-piece-preserved c =
    let turn = YieldsList-turn (YieldsList-from_str_split 46 c.args.text.now (lit< tt) (cc) (cc) (cc))
    c.loop-piece.yielded _ c.loop-piece.yielded_by _ _ c.in-Some.piece c.in-Some.is c.next.ensures.steps in (
      search rules,
      search rules,
      one_more_bounded c.loop-piece.arcs.items _ _ c.loop-piece.invariant.2 c.in-Some-arc_of.ensures.0 c.in_ok-push.ensures.items,
      one_more_piece c.args.text.now c.loop-piece.arcs.items _ c.in-Some.piece.now (length c.loop-piece.yielded) _ _
          c.loop-piece.invariant.3 c.in_ok-push.ensures.items turn.0 turn.1 c.in-Some-arc_of.ensures.1
          (length_push c.loop-piece.yielded c.in-Some.piece),
    )

pub returns : goal.returns
returns c =
    let end = YieldsList-end (YieldsList-from_str_split 46 c.args.text.now (lit< tt) (cc) (cc) (cc))
    c.loop-piece.yielded _ c.loop-piece.yielded_by _ _ c.in-None.is c.next.ensures.steps in
    let pieces = slice_split is_dot c.args.text.now in
    let all = c.loop-piece.invariant.3 ∙ take_all (length c.loop-piece.yielded) pieces (omega (arith, end.1)) in
    (c.loop-piece.invariant.2, dotted_from_pieces c.args.text.now c.loop-piece.arcs.items all)
