use Rattle.key_core.proofs.Curves.{same_curve, same_algorithm}
use Rattle.key_core.proofs.laws.one_identifier_each.Goals as goal

pub returns-clause-each_curve : goal.returns-clause-each_curve
returns-clause-each_curve c = same_curve

pub returns-clause-each_algorithm : goal.returns-clause-each_algorithm
returns-clause-each_algorithm c = same_algorithm
