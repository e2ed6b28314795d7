use Rattle.vouching.proofs.Joining.{behind_program, behind_run, one_file}
use Rattle.vouching.proofs.Trusting.{program_vouched_by, vouched_by}
use Rattle.vouching.specs.Listing.{listed_questions}
use Rattle.vouching.proofs.laws.listed_runs_are_vouched_for.Goals as goal

pub returns-clause-checked : goal.returns-clause-checked
returns-clause-checked g c = λ asks words first first_now shelf shelf_now lines lines_now held held_now ask run judge same verified apart.
    vouched_by words _ _ held held_now run judge (listed_questions ask)
    (behind_run asks words _ _ _ _ lines lines_now held held_now ask run judge same verified apart)

pub returns-clause-program : goal.returns-clause-program
returns-clause-program g c = λ asks words first first_now shelf shelf_now lines lines_now held held_now ask run judge same verified apart.
    program_vouched_by words _ _ held held_now run judge (listed_questions ask)
    (behind_program asks words _ _ _ _ lines lines_now held held_now ask run judge same verified apart)

pub returns-clause-same_file : goal.returns-clause-same_file
returns-clause-same_file g c = λ files others name other octets more is are one. one_file files others name other octets more is are one
