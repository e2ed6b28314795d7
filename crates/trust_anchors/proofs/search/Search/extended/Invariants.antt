use Rattle.std.proofs.Common.{◌+◌, ◌*◌, ◌≤◌, length}
use Rattle.trust_anchors.specs.Inside.Trails.{IsLayerUpTo, sought}
use Rattle.trust_anchors.proofs.search.Search.extended.Given as goal

abbrev pub invariant-loop-index : goal.invariant-loop-index
invariant-loop-index g l = record {
  up : IsLayerUpTo (sought (g.S.Scheme.judge l.self.scheme.now) l.self) l.number l.index l.longer.items;
  counted : l.steps ≤ l.fn.steps + l.index * length l.layer;
}
