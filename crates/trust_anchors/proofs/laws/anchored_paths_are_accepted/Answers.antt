use Rattle.trust_anchors.proofs.Paths.{anchored_accepted}
use Rattle.trust_anchors.proofs.laws.anchored_paths_are_accepted.Goals as goal

pub returns : goal.returns
returns c = λ judge date checked pool anchors purpose path found. anchored_accepted judge date checked pool anchors purpose path found
