-- The report of an answer, before anything is written.
use Rattle.std.specs.Prelude.{◌≡◌, Result, IfOk, IfErr, MatchResult, string_bytes}
use Rattle.program_frame.specs.Commands.{Line}
use Rattle.program_frame.specs.declared.report.Report.{Report}
use Rattle.program_frame.specs.declared.stop.Stop.{Stop}
use Rattle.program_frame.specs.declared.stop.Stop.TheVariants.{Memory}

-- How a program reports its answers.
pub record Reporting (Answer : Type 0) : Type 1 where
  -- out of memory, which isn't reported
  pub IsOutOfMemory : Answer → Type 0
  -- the line that reports any other answer
  pub line_of : Answer → Line

-- lines that are answers themselves
abbrev pub as_lines : Reporting Line
as_lines = record { IsOutOfMemory = λ line. ⊥; line_of = λ line. line }

-- The report is the line of the answer, with its status. Out of memory has no report.
pub record IsReportOf {Answer : Type 0} (reporting : Reporting Answer) (answer : Answer)
    (report : Report) : Type 0 where
  pub reportable : reporting.IsOutOfMemory answer → ⊥
  pub status : report.status ≡ (reporting.line_of answer).status
  pub line : string_bytes report.line ≡ (reporting.line_of answer).text

-- The result is a report of the answer, unless memory ran out.
abbrev pub IsReported : {Answer : Type 0} → Reporting Answer → Answer → Result Report Stop → Type 0
IsReported reporting answer result =
    MatchResult result (IsReportOf reporting answer) (λ stop. stop ≡ Memory)

-- The same for an answer that may be out of memory, of which nothing is said.
abbrev pub GivesReport : {Answer : Type 0} → Reporting Answer → Answer → Result Report Stop
    → Type 0
GivesReport reporting answer result =
    (reporting.IsOutOfMemory answer → ⊥) → IsReported reporting answer result

-- What is reported is an answer that satisfies this, and each such answer is reported, unless
-- memory ran out.
pub record Reports {Answer : Type 0} (reporting : Reporting Answer) (IsAnswer : Answer → Type 0)
    (result : Result Report Stop) : Type 0 where
  pub reported : IfOk result
      (λ report. (answer : Answer) × IsAnswer answer × IsReportOf reporting answer report)
  pub stopped : IfErr result (λ stop. stop ≡ Memory)
  pub only : (answer : Answer) → IsAnswer answer → GivesReport reporting answer result
