use Rattle.demo_core.proofs.OneReport.{one_report}
use Rattle.demo_core.proofs.laws.demonstrations_are_determined.Goals as goal

pub returns : goal.returns
returns c = one_report
