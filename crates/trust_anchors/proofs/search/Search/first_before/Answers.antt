use Rattle.std.proofs.Common.{◌+◌, ◌<◌, length, add-one, arith}
use Rattle.trust_anchors.specs.Inside.Trails.{Continues, IsFirstOf, sought}
use Rattle.trust_anchors.proofs.Turns.{ended, has_end, next_member, turned}
use Rattle.trust_anchors.proofs.search.Search.first_before.Goals as goal

pub earlier_before-requires : goal.earlier_before-requires
earlier_before-requires g c =
    let less : c.loop-trail.trail-index < length c.args.layer.now = omega arith in
    let member = next_member c.args.layer.now c.loop-trail.trail-index c.trail-item.result less c.trail-item.is in
    record {
      end = has_end (sought (g.S.Scheme.judge c.args.self.now.scheme.now) c.args.self.now) c.args.number c.args.layer.now c.trail-item.result c.requires member;
      number = (c.requires.sound c.trail-item.result member).1;
    }

pub loop-trail-preserved : goal.loop-trail-preserved
loop-trail-preserved g c =
    let less : c.loop-trail.trail-index < length c.args.layer.now = omega arith in
    let held = IsFirstOf (Continues (sought (g.S.Scheme.judge c.args.self.now.scheme.now) c.args.self.now) c.args.parent.now) in
    record {
      least = turned c.args.layer.now (λ some. held some c.loop-trail.first) (λ some. held some c.in_ok-first.first) c.loop-trail.trail-index
          (c.loop-trail.trail-index + 1) c.trail-item.result (add-one c.loop-trail.trail-index) less c.trail-item.is
          (c.in_ok-first.ensures.earlier) c.loop-trail.invariant.least;
      counted = omega (arith, c.loop-trail.invariant.counted, c.in_ok-first.ensures.counted);
    }

pub returns : goal.returns
returns g c = record {
  found = ended c.args.layer.now (λ some. IsFirstOf (Continues (sought (g.S.Scheme.judge c.args.self.now.scheme.now) c.args.self.now) c.args.parent.now)
      some c.loop-trail.first) c.loop-trail.trail-index (omega arith) c.loop-trail.invariant.least;
  counted = omega arith;
}
