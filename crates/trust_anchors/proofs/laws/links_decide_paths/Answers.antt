use Rattle.trust_anchors.proofs.Agreed.{found_alike}
use Rattle.trust_anchors.proofs.laws.links_decide_paths.Goals as goal

pub returns : goal.returns
returns c = λ a b date checked pool anchors purpose found agree h. found_alike a b date checked pool anchors purpose found agree h
