-- The answer, and the line that a run reports.
use Rattle.std.specs.Prelude.{ℕ, List, [], ◌∷◌, ◌++◌, Result, Ok, Err, codes, decimal}
use Rattle.authenticode_core.specs.AcceptedText.{accepted_text}
use Rattle.authenticode_core.specs.declared.accepted.Accepted.{Accepted}
use Rattle.authenticode_core.specs.declared.error.CheckError.{CheckError}
use Rattle.authenticode_core.specs.declared.error.CheckError.TheVariants as check
use Rattle.authenticode_core.specs.RefusalName.{refusal_name}
use Rattle.sig_core.specs.VerdictTable.{newline}
use Rattle.program_frame.specs.Reports.{Reporting}
use Rattle.program_frame.specs.Statuses as statuses
use Rattle.x509_core.specs.ErrorName.{cert_error_name}
use Rattle.x509_core.specs.declared.error.CertError.{CertError}
use Rattle.x509_core.specs.declared.error.CertError.TheVariants as cert

-- the answer
pub data Answer : Type 0 where
  -- for a signature file
  OfSignature : Result Accepted CheckError → Answer
  -- for a certificate with its parents: their number, or why it is refused
  OfChain : Result ℕ CertError → Answer

-- out of memory, which isn't reported
abbrev pub IsOutOfMemory : Answer → Type 0
IsOutOfMemory (OfSignature (Err check.Memory)) = Unit {0}
IsOutOfMemory (OfChain (Err cert.Memory)) = Unit {0}
IsOutOfMemory answer = ⊥

-- accepted signer=S path=P,P excuse=E
abbrev pub accepted_line : Accepted → List ℕ
accepted_line accepted = codes "accepted " ++ accepted_text accepted ++ newline ∷ []

-- accepted parents=K
abbrev pub parents_line : ℕ → List ℕ
parents_line count = codes "accepted parents=" ++ decimal count ++ newline ∷ []

-- refused NAME
abbrev pub refused_line : CheckError → List ℕ
refused_line e = codes "refused " ++ refusal_name e ++ newline ∷ []

-- refused NAME, for a chain
abbrev pub refused_chain_line : CertError → List ℕ
refused_chain_line e = codes "refused " ++ cert_error_name e ++ newline ∷ []

-- the line that reports an answer
abbrev pub report_line : Answer → List ℕ
report_line (OfSignature (Ok accepted)) = accepted_line accepted
report_line (OfSignature (Err e)) = refused_line e
report_line (OfChain (Ok count)) = parents_line count
report_line (OfChain (Err e)) = refused_chain_line e

-- the status of a run that reports it
abbrev pub status_of : Answer → ℕ
status_of (OfSignature (Ok accepted)) = statuses.accepted
status_of (OfSignature (Err e)) = statuses.refused
status_of (OfChain (Ok count)) = statuses.accepted
status_of (OfChain (Err e)) = statuses.refused

-- how answers are reported
abbrev pub reporting : Reporting Answer
reporting = record {
  IsOutOfMemory = IsOutOfMemory;
  line_of = λ answer. record { status = status_of answer; text = report_line answer };
}
