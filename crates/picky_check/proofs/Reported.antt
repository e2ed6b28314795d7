-- A report of an answer is a report of each answer with the same cause.
use Rattle.std.proofs.Common.{◌≡◌, ◌⊎◌, ℕ, ◌≤◌, List, Result, Ok, Err, inl, inr, sym, subst, arith}
use Rattle.authenticode_core.specs.declared.accepted.Accepted.{Accepted}
use Rattle.authenticode_core.specs.declared.error.CheckError.{CheckError}
use Rattle.authenticode_core.specs.declared.error.CheckError.TheVariants as check
use Rattle.der_core.specs.Rules.{AreOneUnlessMemory}
use Rattle.key_core.specs.Verifying.{Judge}
use Rattle.authenticode_core.specs.Trusted.{IsAnswer}
use Rattle.authenticode_core.specs.declared.policy.Policy.{Policy}
use Rattle.program_frame.specs.declared.report.Report.{Report}
use Rattle.program_frame.specs.declared.stop.Stop.{Stop}
use Rattle.program_frame.specs.Reports.{IsReported, GivesReport, Reports}
use Rattle.program_frame.proofs.Reporting.{out_of_memory, reported_is}
use Rattle.picky_check.specs.Report.{Answer, OfSignature, OfChain, IsOutOfMemory, reporting, status_of}
use Rattle.picky_check.specs.SignatureAnswer.{IsSignatureAnswer}

-- each answer is an acceptance or a refusal
pub low : (answer : Answer) → status_of answer ≤ 1
low (OfSignature (Ok a)) = omega arith
low (OfSignature (Err e)) = omega arith
low (OfChain (Ok count)) = omega arith
low (OfChain (Err e)) = omega arith

-- ---- for a signature file

same_or_memory : (a b : Result Accepted CheckError) → AreOneUnlessMemory check.Memory a b
    → IsOutOfMemory (OfSignature a) ⊎ (IsOutOfMemory (OfSignature b) ⊎ (a ≡ b))
same_or_memory a b (inl same) = inr (inr same)
same_or_memory a b (inr (inl none)) = inl (subst (λ (x : Result Accepted CheckError). IsOutOfMemory (OfSignature x)) (sym none) tt)
same_or_memory a b (inr (inr none)) = inr (inl (subst (λ (x : Result Accepted CheckError). IsOutOfMemory (OfSignature x)) (sym none) tt))

given_signature : (a b : Result Accepted CheckError) (result : Result Report Stop) → IsReported reporting (OfSignature a) result
    → AreOneUnlessMemory check.Memory a b → GivesReport reporting (OfSignature b) result
given_signature a b result h same other = elim (same_or_memory a b same) [
  | inl wants ↦ out_of_memory reporting (OfSignature a) (OfSignature b) result wants h
  | inr rest ↦ elim rest [
    | inl wants ↦ absurd (other wants)
    | inr is ↦ subst (λ (x : Result Accepted CheckError). IsReported reporting (OfSignature x) result) is h
  ]
]

given_each : (judge : Judge) (policy : Policy) (octets : List ℕ) (a : Result Accepted CheckError) (result : Result Report Stop)
    → IsReported reporting (OfSignature a) result
    → ((b : Result Accepted CheckError) → IsAnswer judge policy octets b → AreOneUnlessMemory check.Memory a b)
    → (b : Answer) → IsSignatureAnswer judge policy octets b → GivesReport reporting b result
given_each judge policy octets a result h only (OfSignature b) is = given_signature a b result h (only b is.is)
given_each judge policy octets a result h only (OfChain b) is = absurd is

pub signature_reported : (judge : Judge) (policy : Policy) (octets : List ℕ) (a : Result Accepted CheckError) (result : Result Report Stop)
    → IsAnswer judge policy octets a
    → ((b : Result Accepted CheckError) → IsAnswer judge policy octets b → AreOneUnlessMemory check.Memory a b)
    → IsReported reporting (OfSignature a) result
    → Reports reporting (IsSignatureAnswer judge policy octets) result
signature_reported judge policy octets a result is only h =
    reported_is reporting (IsSignatureAnswer judge policy octets) (OfSignature a) result (record { is = is }) h (given_each judge policy octets a result h only)
