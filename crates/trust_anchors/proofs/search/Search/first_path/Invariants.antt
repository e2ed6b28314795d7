use Rattle.std.proofs.Common.{◌+◌, ◌*◌, ◌≤◌}
use Rattle.trust_anchors.specs.Inside.Trails.{HasNoneShorter, IsLayer, most_verified, sought}
use Rattle.trust_anchors.proofs.search.Search.first_path.Given as goal

abbrev pub invariant-loop-number : goal.invariant-loop-number
invariant-loop-number g l = record {
  trails : IsLayer (sought (g.S.Scheme.judge l.self.scheme.now) l.self) l.number l.layer.items;
  none : HasNoneShorter (sought (g.S.Scheme.judge l.self.scheme.now) l.self) l.number;
  counted : l.steps ≤ l.fn.steps + l.number * most_verified (sought (g.S.Scheme.judge l.self.scheme.now) l.self);
}
