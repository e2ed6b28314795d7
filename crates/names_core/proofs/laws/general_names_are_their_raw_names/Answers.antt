use Rattle.names_core.proofs.RawNames.{name_of, stands_for, raw_once}
use Rattle.names_core.proofs.laws.general_names_are_their_raw_names.Goals as goal

pub returns-clause-one : goal.returns-clause-one
returns-clause-one c = raw_once

pub returns-clause-each : goal.returns-clause-each
returns-clause-each c from = (name_of from, stands_for from)
