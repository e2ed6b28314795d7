use Rattle.authenticode_core.proofs.WalkSteps.{one_walk, one_path}
use Rattle.authenticode_core.proofs.laws.one_issuer_walk.Goals as goal

pub returns : goal.returns
returns c = record { walk = one_walk; path = one_path }
