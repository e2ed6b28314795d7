use Rattle.authenticode_core.proofs.PolicyOrder.{one_trusted}
use Rattle.authenticode_core.proofs.laws.one_acceptance.Goals as goal

pub returns : goal.returns
returns c = λ judge policy f a b t u. one_trusted judge policy f a b t u
