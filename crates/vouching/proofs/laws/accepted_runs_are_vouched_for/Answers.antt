use Rattle.vouching.proofs.Trusting.{program_vouched_by, vouched_by}
use Rattle.vouching.proofs.laws.accepted_runs_are_vouched_for.Goals as goal

pub returns-clause-checked : goal.returns-clause-checked
returns-clause-checked g c = λ words shelf shelf_now held held_now run judge asked behind. vouched_by words _ _ held held_now run judge asked behind

pub returns-clause-program : goal.returns-clause-program
returns-clause-program g c = λ words shelf shelf_now held held_now run judge asked behind. program_vouched_by words _ _ held held_now run judge asked behind
