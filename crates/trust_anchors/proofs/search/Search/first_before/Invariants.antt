use Rattle.std.proofs.Common.{◌+◌, ◌≤◌, take}
use Rattle.trust_anchors.specs.Inside.Trails.{Continues, IsFirstOf, sought}
use Rattle.trust_anchors.proofs.search.Search.first_before.Given as goal

abbrev pub invariant-loop-trail : goal.invariant-loop-trail
invariant-loop-trail g l = record {
  least : IsFirstOf (Continues (sought (g.S.Scheme.judge l.self.scheme.now) l.self) l.parent) (take l.trail-index l.layer) l.first;
  counted : l.steps ≤ l.fn.steps + l.trail-index;
}
