-- What acceptance means: the certificates of all lines were issued, and so many are accepted.
use Rattle.std.specs.Prelude.{◌≡◌, ℕ, List, length, Option}
use Rattle.asn1_types.specs.declared.generalized_time.GeneralizedTime.{GeneralizedTime}
use Rattle.sig_core.specs.DemoScheme.{demo_verdict}
use Rattle.x509_core.specs.OwnedCertificate.{KeptCertificate}
use Rattle.program_frame.specs.Commands.{Line as ReportLine}
use Rattle.program_frame.specs.Limits.{IsWholeFile}
use Rattle.program_frame.specs.ReadFiles.{HandsOut}
use Rattle.program_frame.specs.Shelf.{ShelfState}
use Rattle.program_frame.specs.Sink.{Appends}
use Rattle.program_frame.specs.Statuses as statuses
use Rattle.ca_register.specs.Lines.{IsRegisterText, Line}
use Rattle.ca_register.specs.Answer.{report_line}
use Rattle.ca_register.specs.Authorities.{IsRegister}
use Rattle.der_core.specs.Counting.{IsCount}
use Rattle.ca_register.specs.Counting.{IsAcceptedAt}
use Rattle.ca_register.specs.LineCertificates.{AreForLines}
use Rattle.ca_register.specs.LineEntries.{entries_of}
use Rattle.ca_register.specs.Words.{AsksFor, Command}
use Rattle.ca_register.specs.declared.report.Answer.TheVariants.{Counted}

-- A register issued the certificates of all lines, each for its line, and under the demonstration
-- scheme so many of them are accepted at the date, each over all its ancestors.
pub record AreIssued (date : GeneralizedTime) (lines : List Line) (accepted : ℕ) : Type 0 where
  pub certificates : List KeptCertificate
  pub register : IsRegister demo_verdict (entries_of lines) certificates
  pub each : AreForLines lines certificates
  pub count : IsCount (IsAcceptedAt demo_verdict (entries_of lines) certificates date)
      (length lines) accepted

-- The line reports that all were issued, and how many are accepted.
pub record IsCountLine (date : GeneralizedTime) (lines : List Line) (line : List ℕ) : Type 0 where
  pub accepted : ℕ
  pub issued : ∥ AreIssued date lines accepted ∥₁
  pub is : line ≡ report_line (Counted (length lines) accepted)

-- The text consists of lines, and the line reports this of them.
pub record IsCountOf (date : GeneralizedTime) (text line : List ℕ) : Type 0 where
  pub lines : List Line
  pub is_text : IsRegisterText text lines
  pub counted : IsCountLine date lines line

-- an acceptance reports this
abbrev pub IsCountIfAccepted : GeneralizedTime → (text : List ℕ) → ReportLine → Type 0
IsCountIfAccepted date text line = line.status ≡ statuses.accepted → IsCountOf date text line.text

-- The words are FILE DATE. The text of the file FILE consists of lines, as far as the shelf exposes
-- its files, and exactly as many octets as it has were handed out. This line reports how many of
-- their certificates are accepted at DATE.
pub record IsCountFor (words : List (List ℕ)) (shelf shelf_now : ShelfState)
    (line : List ℕ) : Type 0 where
  pub command : Command
  pub asked : AsksFor words command
  pub text : List ℕ
  pub file : IsWholeFile shelf.files command.file text
  pub handed_out : HandsOut (length text) shelf shelf_now
  pub count : IsCountOf command.date text line

-- If the sink exposes its contents, exactly such a line has been appended.
pub record IsReportedCount (words : List (List ℕ)) (shelf shelf_now : ShelfState)
    (held held_now : Option (List ℕ)) : Type 0 where
  pub line : List ℕ
  pub count : IsCountFor words shelf shelf_now line
  pub written : Appends held line held_now
