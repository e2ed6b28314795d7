use Rattle.trust_anchors.proofs.Paths.{first_once}
use Rattle.trust_anchors.proofs.laws.first_paths_are_one.Goals as goal

pub returns : goal.returns
returns c = λ judge date checked pool anchors purpose a b p q. first_once judge date checked pool anchors purpose a b p q
