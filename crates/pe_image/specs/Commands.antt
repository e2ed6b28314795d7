-- The answer on the files of a command; the program.
use Rattle.std.specs.Prelude.{ℕ, List, [], ◌∷◌, Result}
use Rattle.key_core.specs.Verifying.{Judge}
use Rattle.authenticode_core.specs.declared.accepted.Accepted.{Accepted}
use Rattle.program_frame.specs.Commands.{Program}
use Rattle.program_frame.specs.Tables.{TableProgram, by_table}
use Rattle.pe_image.specs.ListAnswer.{IsListAnswer}
use Rattle.pe_image.specs.ProgramPolicy.{program_policy}
use Rattle.pe_image.specs.Report.{reporting}
use Rattle.pe_image.specs.Words.{Command, AsksFor, files_of}
use Rattle.pe_image.specs.declared.error.PeCheckError.{PeCheckError}

-- the text of the verdict table, among the contents of the files
abbrev pub table_in : Command → List (List ℕ) → List ℕ
table_in command (octets ∷ text ∷ lists) = text
table_in command contents = []

-- The result for the contents of the files, with the verdicts of the table.
abbrev pub IsAnswerTo : Judge → Command → List (List ℕ) → Result Accepted PeCheckError → Type 0
IsAnswerTo judge command (octets ∷ text ∷ lists) answer =
    IsListAnswer judge (program_policy command.date command.options) octets lists answer
IsAnswerTo judge command contents answer = ⊥

-- the program: its command line, and its answers by verdicts
abbrev pub checks : TableProgram Command (Result Accepted PeCheckError)
checks = record {
  AsksFor = AsksFor;
  files_of = files_of;
  table_in = table_in;
  IsAnswerTo = IsAnswerTo;
  reporting = reporting;
}

-- the program
abbrev pub program : Program Command
program = by_table checks
