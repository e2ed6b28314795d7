use Rattle.std.proofs.Common.{length}
use Rattle.xgolden_der.proofs.cases.print_answers.Given as goal

abbrev pub decreases-loop-rest : goal.decreases-loop-rest
decreases-loop-rest g l = length l.rest
