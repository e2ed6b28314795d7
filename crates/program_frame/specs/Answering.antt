-- The report that is the answer of a command, before anything is written.
use Rattle.std.specs.Prelude.{◌≡◌, ◌⊎◌, ◌≤◌, ℕ, List, ◌∷◌, ◌++◌, length, IsSome, Result, Err, IfOk, IfErr, MatchResult, string_bytes}
use Rattle.der_core.specs.Rules.{OrMemory}
use Rattle.der_core.specs.Counts.{FailsOnce, HasRisen}
use Rattle.program_frame.specs.declared.report.Report.{Report}
use Rattle.program_frame.specs.declared.stop.Stop.{Stop}
use Rattle.program_frame.specs.declared.stop.Stop.TheVariants.{Usage, BadTable, Shelf, TooLong, Memory}
use Rattle.program_frame.specs.Commands.{Line, Program, AnswersRead, FindsBadText, HasBadText, IsAnswered}
use Rattle.program_frame.specs.Limits.{IsLongFile, IsMissingFile, HasFiles, HasLongFile}
use Rattle.program_frame.specs.ReadFiles.{FindsLongFile, HandsOutAtMost}
use Rattle.program_frame.specs.Shelf.{ShelfState}
use Rattle.program_frame.specs.Statuses as statuses

-- the line of a report, and its status
abbrev pub line_held : Report → Line
line_held report = record { status = report.status; text = string_bytes report.line }

-- The result is a report of this line, unless memory ran out.
abbrev pub GivesLine : Line → Result Report Stop → Type 0
GivesLine line result =
    MatchResult result (λ report. line_held report ≡ line) (λ stop. stop ≡ Memory)

-- The result is this stop, unless memory ran out.
abbrev pub GivesStop : Stop → Result Report Stop → Type 0
GivesStop stop = OrMemory (Err Memory) (λ (result : Result Report Stop). result ≡ Err stop)

-- Why there is no report on contents that were read: a text among them has a bad line, or memory
-- ran out.
abbrev pub StopsForText : (HasBadLine : Type 0) → Stop → Type 0
StopsForText HasBadLine BadTable = HasBadLine
StopsForText HasBadLine Memory = Unit {0}
StopsForText HasBadLine Usage = ⊥
StopsForText HasBadLine Shelf = ⊥
StopsForText HasBadLine TooLong = ⊥

-- The report on contents of a command's files.
pub record IsReport {Command : Type 0} (program : Program Command) (command : Command)
    (contents : List (List ℕ)) (result : Result Report Stop) : Type 0 where
  -- a report is the answer, and holds what the program promises
  pub reported : IfOk result (λ report. program.IsAnswer command contents (line_held report))
  pub promised : IfOk result (λ report. program.Promises command contents (line_held report))
  pub low : IfOk result (λ report. report.status ≤ statuses.refused)
  -- without a report there is a cause
  pub stopped : IfErr result (StopsForText (program.HasBadLine command contents))
  -- each answer is reported
  pub only : (line : Line) → program.IsAnswer command contents line → GivesLine line result
  -- a bad line has no report
  pub bad : program.HasBadLine command contents → GivesStop BadTable result

-- Why there is no report on a command's files.
abbrev pub IsStopped : {Command : Type 0} → Program Command → (before after : ShelfState) → Command
    → Stop → Type 0
IsStopped program before after command BadTable = FindsBadText program before after command
IsStopped program before after command Shelf =
    HasRisen before.faults after.faults
    × (before.is_quiet → HasFiles before.files (program.files_of command) → ⊥)
IsStopped program before after command TooLong =
    FindsLongFile before after (program.files_of command)
IsStopped program before after command Memory = Unit {0}
IsStopped program before after command Usage = ⊥

-- The result for a command: its files are read, and there is the report on their contents.
pub record IsAnswering {Command : Type 0} (program : Program Command) (before after : ShelfState)
    (command : Command) (result : Result Report Stop) : Type 0 where
  -- a report is the answer
  pub reported : IfOk result
      (λ report. AnswersRead program before after command (line_held report))
  pub low : IfOk result (λ report. report.status ≤ statuses.refused)
  -- without a report there is a cause
  pub stopped : IfErr result (IsStopped program before after command)
  -- the answer for exposed files is reported
  pub answered : (line : Line) → IsSome before.files
      → IsAnswered program before.files command line → before.is_quiet → GivesLine line result
  pub bad_text : IsSome before.files → HasBadText program before.files command → before.is_quiet
      → GivesStop BadTable result
  -- a missing file is a failure of the shelf, unless an earlier one is too long
  pub missing : (ahead behind : List (List ℕ)) (name : List ℕ)
      → program.files_of command ≡ ahead ++ name ∷ behind → IsMissingFile before.files name
      → GivesStop Shelf result ⊎ ((result ≡ Err TooLong) × HasLongFile before.files ahead)
  -- A file that is too long ends the run that way, unless the shelf fails; a quiet shelf that has
  -- the earlier files doesn't.
  pub too_long : (ahead behind : List (List ℕ)) (name : List ℕ)
      → program.files_of command ≡ ahead ++ name ∷ behind → IsLongFile before.files name
      → GivesStop TooLong result
      ⊎ ((result ≡ Err Shelf) × (before.is_quiet → HasFiles before.files ahead → ⊥))
  -- no more is read than one octet more than the longest file for each file
  pub at_most : HandsOutAtMost (length (program.files_of command)) before after
  -- a failed call of the shelf is the last one, and is reported
  pub once : FailsOnce (result ≡ Err Shelf) before.faults after.faults
