-- The line that a run reports, and its status.
use Rattle.std.specs.Prelude.{ℕ, List, [], ◌∷◌, ◌++◌, Result, Ok, Err, codes}
use Rattle.authenticode_core.specs.AcceptedText.{accepted_text}
use Rattle.authenticode_core.specs.declared.accepted.Accepted.{Accepted}
use Rattle.program_frame.specs.Reports.{Reporting}
use Rattle.program_frame.specs.Statuses as statuses
use Rattle.sig_core.specs.VerdictTable.{newline}
use Rattle.pe_image.specs.RefusalName.{refusal_name}
use Rattle.pe_image.specs.declared.error.PeCheckError.{PeCheckError}
use Rattle.pe_image.specs.declared.error.PeCheckError.TheVariants.{Memory}

-- out of memory, which isn't reported
abbrev pub IsOutOfMemory : Result Accepted PeCheckError → Type 0
IsOutOfMemory (Err Memory) = Unit {0}
IsOutOfMemory answer = ⊥

-- accepted signer=S path=P,P excuse=E
abbrev pub accepted_line : Accepted → List ℕ
accepted_line accepted = codes "accepted " ++ accepted_text accepted ++ newline ∷ []

-- refused NAME
abbrev pub refused_line : PeCheckError → List ℕ
refused_line e = codes "refused " ++ refusal_name e ++ newline ∷ []

-- the line that reports a result
abbrev pub report_line : Result Accepted PeCheckError → List ℕ
report_line (Ok accepted) = accepted_line accepted
report_line (Err e) = refused_line e

-- the status of a run that reports it
abbrev pub status_of : Result Accepted PeCheckError → ℕ
status_of (Ok accepted) = statuses.accepted
status_of (Err e) = statuses.refused

-- how results are reported
abbrev pub reporting : Reporting (Result Accepted PeCheckError)
reporting = record {
  IsOutOfMemory = IsOutOfMemory;
  line_of = λ answer. record { status = status_of answer; text = report_line answer };
}
