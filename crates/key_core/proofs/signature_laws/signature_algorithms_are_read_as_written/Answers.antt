use Rattle.key_core.proofs.SignatureIdentifiers.{has_algorithm, same_algorithm}
use Rattle.key_core.proofs.signature_laws.signature_algorithms_are_read_as_written.Goals as goal

pub returns-clause-written : goal.returns-clause-written
returns-clause-written c = λ algorithm read id written named. same_algorithm read algorithm _ named written.identifier

pub returns-clause-each : goal.returns-clause-each
returns-clause-each c = has_algorithm
