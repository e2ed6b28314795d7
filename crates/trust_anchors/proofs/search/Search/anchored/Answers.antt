use Rattle.std.proofs.Common.{◌+◌, ◌<◌, length, add-one, arith}
use Rattle.std.proofs.lemmas.Nat.{mul-le}
use Rattle.trust_anchors.specs.Inside.Trails.{IsFirstSoFar, sought}
use Rattle.trust_anchors.proofs.Bounds.{one_more_length}
use Rattle.trust_anchors.proofs.Paths.{first_with}
use Rattle.trust_anchors.proofs.Turns.{begun, ended, has_end, next_member, turned}
use Rattle.trust_anchors.proofs.search.Search.anchored.Goals as goal

pub earlier_path-requires : goal.earlier_path-requires
earlier_path-requires g c =
    let less : c.loop-trail.trail-index < length c.args.layer.now = omega arith in
    let member = next_member c.args.layer.now c.loop-trail.trail-index c.trail-item.result less c.trail-item.is in
    record {
      end = has_end (sought (g.S.Scheme.judge c.args.self.now.scheme.now) c.args.self.now) c.args.number c.args.layer.now c.trail-item.result c.requires member;
      number = (c.requires.sound c.trail-item.result member).1;
    }

pub loop-trail-init : goal.loop-trail-init
loop-trail-init g c = record { so_far = begun (sought (g.S.Scheme.judge c.args.self.now.scheme.now) c.args.self.now); counted = omega arith }

pub loop-trail-preserved : goal.loop-trail-preserved
loop-trail-preserved g c =
    let less : c.loop-trail.trail-index < length c.args.layer.now = omega arith in
    let so_far = IsFirstSoFar (sought (g.S.Scheme.judge c.args.self.now.scheme.now) c.args.self.now) in
    let m = length c.args.self.now.anchors.now in
    record {
      so_far = turned c.args.layer.now (λ some. so_far some c.loop-trail.first) (λ some. so_far some c.in_ok-first.first) c.loop-trail.trail-index
          (c.loop-trail.trail-index + 1) c.trail-item.result (add-one c.loop-trail.trail-index) less c.trail-item.is
          (c.in_ok-first.ensures.earlier) c.loop-trail.invariant.so_far;
      counted = omega (
        arith,
        c.loop-trail.invariant.counted,
        c.in_ok-first.ensures.counted,
        one_more_length c.loop-trail.trail-index (c.loop-trail.trail-index + 1) m (add-one c.loop-trail.trail-index),
      );
    }

pub returns : goal.returns
returns g c = record {
  found = first_with (sought (g.S.Scheme.judge c.args.self.now.scheme.now) c.args.self.now) c.args.number c.args.layer.now c.loop-trail.first c.requires
      (ended c.args.layer.now (λ some. IsFirstSoFar (sought (g.S.Scheme.judge c.args.self.now.scheme.now) c.args.self.now) some c.loop-trail.first)
      c.loop-trail.trail-index (omega arith) c.loop-trail.invariant.so_far);
  counted = omega (
    arith,
    c.loop-trail.invariant.counted,
    mul-le c.loop-trail.trail-index (length c.args.self.now.anchors.now) (length c.args.layer.now) (length c.args.self.now.anchors.now) (omega arith)
        (omega arith),
  );
}
