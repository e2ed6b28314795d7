use Rattle.std.proofs.Common.{◌+◌, ◌≤◌}
use Rattle.trust_anchors.specs.Inside.Trails.{HasNoAnchorBefore, sought}
use Rattle.trust_anchors.proofs.search.Search.first_anchor.Given as goal

abbrev pub invariant-loop-index : goal.invariant-loop-index
invariant-loop-index g l = record {
  none : HasNoAnchorBefore (sought (g.S.Scheme.judge l.self.scheme.now) l.self) l.number l.child l.index;
  counted : l.steps ≤ l.fn.steps + l.index;
}
