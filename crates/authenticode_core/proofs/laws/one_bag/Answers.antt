use Rattle.authenticode_core.proofs.BagSteps.{one_bag}
use Rattle.authenticode_core.proofs.laws.one_bag.Goals as goal

pub returns : goal.returns
returns c = one_bag
