use Rattle.x509_core.proofs.Histories.{line_of, ancestors_once}
use Rattle.x509_core.proofs.history_laws.steps_have_one_list_of_ancestors.Goals as goal

pub returns-clause-exists : goal.returns-clause-exists
returns-clause-exists c = line_of

pub returns-clause-once : goal.returns-clause-once
returns-clause-once c = ancestors_once
