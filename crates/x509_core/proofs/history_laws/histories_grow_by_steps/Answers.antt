use Rattle.x509_core.proofs.GrowingHistories.{issued_with_step}
use Rattle.x509_core.proofs.history_laws.histories_grow_by_steps.Goals as goal

pub returns : goal.returns
returns c = issued_with_step
