use Rattle.std.proofs.Common.{arith}
use Rattle.trust_anchors.specs.Inside.Trails.{sought}
use Rattle.trust_anchors.proofs.Trails.{layer_ended}
use Rattle.trust_anchors.proofs.search.Search.extended.Goals as goal

pub returns-clause-longer : goal.returns-clause-longer
returns-clause-longer g c = layer_ended (sought (g.S.Scheme.judge c.args.self.now.scheme.now) c.args.self.now)
    c.args.number c.loop-index.index c.loop-index.longer.items (omega arith) (omega arith) c.loop-index.invariant.up
