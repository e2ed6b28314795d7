use Rattle.key_core.proofs.Curves.{has_curve, has_algorithm}
use Rattle.key_core.proofs.laws.lists_have_each_curve.Goals as goal

pub returns-clause-each_curve : goal.returns-clause-each_curve
returns-clause-each_curve c = has_curve

pub returns-clause-each_algorithm : goal.returns-clause-each_algorithm
returns-clause-each_algorithm c = has_algorithm
