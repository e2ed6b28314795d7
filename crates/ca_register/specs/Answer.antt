-- The answer for the lines of a register, and the line that reports it.
use Rattle.std.specs.Prelude.{◌≡◌, ℕ, List, [], ◌∷◌, ◌++◌, length, codes, decimal}
use Rattle.asn1_types.specs.declared.generalized_time.GeneralizedTime.{GeneralizedTime}
use Rattle.sig_core.specs.VerdictTable.{newline}
use Rattle.program_frame.specs.Commands.{Line as ReportLine}
use Rattle.program_frame.specs.Reports.{Reporting}
use Rattle.program_frame.specs.Statuses as statuses
use Rattle.ca_register.specs.Lines.{IsRegisterText, Line}
use Rattle.der_core.specs.Counting.{IsCount}
use Rattle.ca_register.specs.Counting.{IsUsableAt}
use Rattle.ca_register.specs.LineEntries.{AreIssuable, IsFirstRefused, entries_of}
use Rattle.ca_register.specs.declared.error.IssueError.{IssueError}
use Rattle.ca_register.specs.declared.error.IssueError.TheVariants as errors
use Rattle.ca_register.specs.declared.report.Answer.{Answer}
use Rattle.ca_register.specs.declared.report.Answer.TheVariants.{Counted, NoIssuer, NotCa, TooDeep}

-- ---- the answer

-- All lines are issued, so many, and so many of the certificates are usable at the date.
pub record AreCounted (date : GeneralizedTime) (lines : List Line)
    (issued accepted : ℕ) : Type 0 where
  pub issuable : AreIssuable lines
  pub all : issued ≡ length lines
  pub usable : IsCount (IsUsableAt (entries_of lines) date) (length lines) accepted

-- the first line that isn't issued is refused for a reason with this name
abbrev pub IsRefusal : List Line → (IssueError → Type 0) → Type 0
IsRefusal lines HasName = (e : IssueError) × IsFirstRefused lines e × HasName e

-- The answer for the lines at a date: by the lines alone.
abbrev pub IsAnswerTo : GeneralizedTime → List Line → Answer → Type 0
IsAnswerTo date lines (Counted issued accepted) = AreCounted date lines issued accepted
IsAnswerTo date lines NoIssuer =
    IsRefusal lines (λ e. (issuer : ℕ) × (len : ℕ) × (e ≡ errors.NoIssuer issuer len))
IsAnswerTo date lines NotCa = IsRefusal lines (λ e. e ≡ errors.NotCa)
IsAnswerTo date lines TooDeep = IsRefusal lines (λ e. (ancestor : ℕ) × (e ≡ errors.TooDeep ancestor))

-- ---- the line

-- ca issued=N
abbrev pub issued_text : ℕ → List ℕ
issued_text issued = codes "ca issued=" ++ decimal issued

-- ca issued=N accepted=K
abbrev pub count_line : (issued accepted : ℕ) → List ℕ
count_line issued accepted =
    issued_text issued ++ (codes " accepted=" ++ decimal accepted ++ newline ∷ [])

-- the line that reports an answer
abbrev pub report_line : Answer → List ℕ
report_line (Counted issued accepted) = count_line issued accepted
report_line NoIssuer = codes "refused NoIssuer" ++ newline ∷ []
report_line NotCa = codes "refused NotCa" ++ newline ∷ []
report_line TooDeep = codes "refused TooDeep" ++ newline ∷ []

-- the status of a run that reports it
abbrev pub status_of : Answer → ℕ
status_of (Counted issued accepted) = statuses.accepted
status_of NoIssuer = statuses.refused
status_of NotCa = statuses.refused
status_of TooDeep = statuses.refused

-- how answers are reported; none of them is out of memory
abbrev pub reporting : Reporting Answer
reporting = record {
  IsOutOfMemory = λ answer. ⊥;
  line_of = λ answer. record { status = status_of answer; text = report_line answer };
}

-- ---- the file

-- the text of the register, the only file
abbrev pub text_in : List (List ℕ) → List ℕ
text_in (text ∷ others) = text
text_in [] = []

-- The line reports the answer for the text of a register at a date.
pub record IsAnswerLine (date : GeneralizedTime) (text : List ℕ) (line : ReportLine) : Type 0 where
  pub lines : List Line
  pub is_text : IsRegisterText text lines
  pub answer : Answer
  pub is_answer : IsAnswerTo date lines answer
  pub line_is : line ≡ reporting.line_of answer
