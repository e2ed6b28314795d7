use Rattle.std.proofs.Common.{◌<◌, length, refl, arith, add-one}
use Rattle.std.proofs.lemmas.Bool.{iff_false}
use Rattle.std.proofs.lemmas.Option.{slice_get_read}
use Rattle.trust_anchors.specs.Inside.Trails.{IsAnchorAt, sought}
use Rattle.trust_anchors.proofs.Turns.{is_at, none_at_all, none_before_next}
use Rattle.trust_anchors.proofs.search.Search.first_anchor.Goals as goal

pub loop-index-preserved : goal.loop-index-preserved
loop-index-preserved g c =
    let less : c.loop-index.index < length c.args.self.now.anchors.now = omega arith in
    record {
      none = none_before_next (sought (g.S.Scheme.judge c.args.self.now.scheme.now) c.args.self.now)
          c.args.number c.args.child.now c.loop-index.index _ c.anchor-item.result (add-one c.loop-index.index) c.loop-index.invariant.none
          (slice_get_read c.args.self.now.anchors.now (length c.args.self.now.anchors.now) c.loop-index.index c.anchor-item.result refl less c.anchor-item.is)
          (iff_false c.in_ok-is.ensures.answer c.if-is.false);
      counted = omega (arith, c.loop-index.invariant.counted, c.in_ok-is.ensures.counted);
    }

pub returns-clause-found : goal.returns-clause-found
returns-clause-found g c = none_at_all (sought (g.S.Scheme.judge c.args.self.now.scheme.now) c.args.self.now) c.args.number c.args.child.now c.loop-index.index
    (omega arith) c.loop-index.invariant.none

pub returns-then-is-clause-found : goal.returns-then-is-clause-found
returns-then-is-clause-found g c =
    let s = sought (g.S.Scheme.judge c.args.self.now.scheme.now) c.args.self.now in
    let less : c.loop-index.index < length c.args.self.now.anchors.now = omega arith in
    let at : IsAnchorAt s c.args.number c.args.child.now c.loop-index.index =
    is_at s c.args.number c.args.child.now c.loop-index.index c.anchor-item.result
    (slice_get_read c.args.self.now.anchors.now (length c.args.self.now.anchors.now) c.loop-index.index c.anchor-item.result refl less c.anchor-item.is)
    (c.in_ok-is.ensures.answer.0 c.if-is.true) in
    (at, c.loop-index.invariant.none)
