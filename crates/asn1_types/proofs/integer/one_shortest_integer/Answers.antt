use Rattle.asn1_types.proofs.Numbers.{one_shortest, none_shorter}
use Rattle.asn1_types.proofs.integer.one_shortest_integer.Goals as goal

pub returns-clause-one : goal.returns-clause-one
returns-clause-one c = one_shortest

pub returns-clause-none_shorter : goal.returns-clause-none_shorter
returns-clause-none_shorter c = none_shorter
