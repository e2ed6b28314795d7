use Rattle.authenticode_core.proofs.OneData.{one_data}
use Rattle.authenticode_core.proofs.laws.one_signed_data.Goals as goal

pub returns : goal.returns
returns c = one_data
