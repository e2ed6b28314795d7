-- The answer for the certificates of the files, and the line that reports it; the program.
use Rattle.std.specs.Prelude.{◌≡◌, ℕ, List, [], ◌∷◌, ◌++◌, false, true, length, map, codes}
use Rattle.key_core.specs.Verifying.{Judge}
use Rattle.sig_core.specs.VerdictTable.{newline}
use Rattle.x509_core.specs.OwnedCertificate.{KeptCertificate, kept_octets}
use Rattle.program_frame.specs.Commands.{Program}
use Rattle.program_frame.specs.Reports.{Reporting}
use Rattle.program_frame.specs.Tables.{TableProgram, by_table}
use Rattle.program_frame.specs.Statuses as statuses
use Rattle.trust_anchors.specs.AnchoredPath.{HasNoPath, IsAnchoredPath}
use Rattle.trust_anchors.specs.FirstPath.{IsFirstPath}
use Rattle.trust_anchors.specs.PathText.{anchored_line}
use Rattle.trust_anchors.specs.Words.{AsksFor, Command, files_of}
use Rattle.trust_anchors.specs.declared.anchor.Anchor.{Anchor}
use Rattle.trust_anchors.specs.declared.path.AnchoredPath.{AnchoredPath}
use Rattle.trust_anchors.specs.declared.report.Answer.{Answer}
use Rattle.trust_anchors.specs.declared.report.Answer.TheVariants.{Anchored, NoPath, Unread}

-- ---- the certificates

-- The octets are those of the anchors, as many as this number, of the checked certificate, and of
-- the pool.
pub record AreGiven (number : ℕ) (octets : List (List ℕ)) (anchors : List KeptCertificate)
    (checked : KeptCertificate) (pool : List KeptCertificate) : Type 0 where
  pub count : length anchors ≡ number
  pub are : map kept_octets (anchors ++ checked ∷ pool) ≡ octets

-- the octets are no certificate
abbrev pub IsNoCertificate : List ℕ → Type 0
IsNoCertificate octets = (kept : KeptCertificate) → kept_octets kept ≡ octets → ⊥

-- Some of these octets are no certificate.
pub record HasUnread (octets : List (List ℕ)) : Type 0 where
  pub ahead : List (List ℕ)
  pub unread : List ℕ
  pub behind : List (List ℕ)
  pub are : octets ≡ ahead ++ unread ∷ behind
  pub isnt : IsNoCertificate unread

-- an anchor that serves `code` alone
abbrev pub code_anchor : KeptCertificate → Anchor
code_anchor certificate = record { cert = certificate; code = true; time = false }

-- ---- the answer

-- the path of the command is anchored, through the pool to one of the anchors
abbrev pub IsPathOf : Judge → Command → (anchors : List KeptCertificate) → (checked : KeptCertificate)
    → (pool : List KeptCertificate) → AnchoredPath → Type 0
IsPathOf judge command anchors checked pool =
    IsAnchoredPath judge command.date checked pool (map code_anchor anchors) command.purpose

-- the first of the shortest paths, or that there is none
abbrev pub IsSearchResult : (AnchoredPath → Type 0) → Answer → Type 0
IsSearchResult IsOne (Anchored path) = IsFirstPath IsOne path
IsSearchResult IsOne NoPath = HasNoPath IsOne
IsSearchResult IsOne Unread = ⊥

-- The answer is that of the search over the certificates with these octets.
pub record IsFoundAmong (judge : Judge) (command : Command) (octets : List (List ℕ))
    (answer : Answer) : Type 0 where
  pub anchors : List KeptCertificate
  pub checked : KeptCertificate
  pub pool : List KeptCertificate
  pub given : AreGiven command.number octets anchors checked pool
  pub found : IsSearchResult (IsPathOf judge command anchors checked pool) answer

-- The answer to a command, for the octets of its certificates.
abbrev pub IsAnswerTo : Judge → Command → (octets : List (List ℕ)) → Answer → Type 0
IsAnswerTo judge command octets Unread = HasUnread octets
IsAnswerTo judge command octets (Anchored path) = IsFoundAmong judge command octets (Anchored path)
IsAnswerTo judge command octets NoPath = IsFoundAmong judge command octets NoPath

-- ---- the line

-- the line that reports an answer
abbrev pub report_line : Answer → List ℕ
report_line (Anchored path) = anchored_line path
report_line NoPath = codes "refused NoAnchoredPath" ++ newline ∷ []
report_line Unread = codes "refused Asn1Deserialization" ++ newline ∷ []

-- the status of a run that reports it
abbrev pub status_of : Answer → ℕ
status_of (Anchored path) = statuses.accepted
status_of NoPath = statuses.refused
status_of Unread = statuses.refused

-- ---- the files

-- the text of the table, among the contents of the files
abbrev pub table_in : List (List ℕ) → List ℕ
table_in (text ∷ octets) = text
table_in [] = []

-- the octets of the certificates, among the contents of the files
abbrev pub certificates_in : List (List ℕ) → List (List ℕ)
certificates_in (text ∷ octets) = octets
certificates_in [] = []

-- how answers are reported; none is out of memory
abbrev pub reporting : Reporting Answer
reporting = record {
  IsOutOfMemory = λ answer. ⊥;
  line_of = λ answer. record { status = status_of answer; text = report_line answer };
}

-- the program: its command, and its answers by verdicts
abbrev pub searches : TableProgram Command Answer
searches = record {
  AsksFor = AsksFor;
  files_of = files_of;
  table_in = λ command contents. table_in contents;
  IsAnswerTo = λ judge command contents answer.
      IsAnswerTo judge command (certificates_in contents) answer;
  reporting = reporting;
}

-- the program
abbrev pub program : Program Command
program = by_table searches
