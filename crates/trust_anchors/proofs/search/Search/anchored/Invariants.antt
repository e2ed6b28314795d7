use Rattle.std.proofs.Common.{◌+◌, ◌*◌, ◌≤◌, length, take}
use Rattle.trust_anchors.specs.Inside.Trails.{IsFirstSoFar, sought}
use Rattle.trust_anchors.proofs.search.Search.anchored.Given as goal

abbrev pub invariant-loop-trail : goal.invariant-loop-trail
invariant-loop-trail g l = record {
  so_far : IsFirstSoFar (sought (g.S.Scheme.judge l.self.scheme.now) l.self) (take l.trail-index l.layer) l.first;
  counted : l.steps ≤ l.fn.steps + l.trail-index * length l.self.anchors.now;
}
