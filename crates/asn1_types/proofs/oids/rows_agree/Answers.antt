use Rattle.asn1_types.proofs.KnownTable.{rows_named, each_agrees, all_apart}
use Rattle.asn1_types.proofs.oids.rows_agree.Goals as goal

pub returns-clause-named : goal.returns-clause-named
returns-clause-named c = rows_named

pub returns-clause-each : goal.returns-clause-each
returns-clause-each c = each_agrees

pub returns-clause-apart : goal.returns-clause-apart
returns-clause-apart c = all_apart
