-- Programs whose answers follow from the verdict table among a command's files.
use Rattle.std.specs.Prelude.{◌≡◌, ℕ, List}
use Rattle.sig_core.specs.VerdictTable.{IsTable, IsFirstBadLine, verdict_of}
use Rattle.sig_core.specs.declared.algorithm.SigAlg.{SigAlg}
use Rattle.sig_core.specs.declared.scheme.Verdict.{Verdict}
use Rattle.sig_core.specs.declared.verdict_row.VerdictRow.{VerdictRow}
use Rattle.program_frame.specs.Commands.{Line, Program}
use Rattle.program_frame.specs.Reports.{Reporting}

-- A program with a verdict table among the files of each command.
pub record TableProgram (Command Answer : Type 0) : Type 1 where
  -- the words request this command
  pub AsksFor : (words : List (List ℕ)) → Command → Type 0
  -- the names of its files, in the order of reading
  pub files_of : Command → List (List ℕ)
  -- the text of the table, among the contents of its files
  pub table_in : Command → (contents : List (List ℕ)) → List ℕ
  -- the answer on these contents, by verdicts
  pub IsAnswerTo : (SigAlg → List ℕ → List ℕ → List ℕ → Verdict) → Command
      → (contents : List (List ℕ)) → Answer → Type 0
  -- how answers are reported
  pub reporting : Reporting Answer

-- The line reports the answer on these contents, by the verdicts of the table. Out of memory isn't
-- reported.
pub record IsTableLine {Command Answer : Type 0} (program : TableProgram Command Answer)
    (command : Command) (contents : List (List ℕ)) (line : Line) : Type 0 where
  pub answer : Answer
  pub rows : List VerdictRow
  pub is_table : IsTable (program.table_in command contents) rows
  pub is_answer : program.IsAnswerTo (verdict_of rows) command contents answer
  pub reportable : program.reporting.IsOutOfMemory answer → ⊥
  pub line_is : line ≡ program.reporting.line_of answer

-- the table has a bad line
abbrev pub HasBadTable : {Command Answer : Type 0} → TableProgram Command Answer → Command
    → (contents : List (List ℕ)) → Type 0
HasBadTable program command contents =
    (number : ℕ) × IsFirstBadLine (program.table_in command contents) number

-- the program
abbrev pub by_table : {Command Answer : Type 0} → TableProgram Command Answer → Program Command
by_table program = record {
  AsksFor = program.AsksFor;
  files_of = program.files_of;
  HasBadLine = HasBadTable program;
  IsAnswer = IsTableLine program;
  Promises = λ command contents line. Unit {0};
}
