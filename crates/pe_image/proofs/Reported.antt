-- A report of a result is a report of each result with the same cause.
use Rattle.std.proofs.Common.{◌≡◌, ◌⊎◌, ℕ, ◌≤◌, List, Result, Ok, Err, inl, inr, sym, subst, arith}
use Rattle.authenticode_core.specs.declared.accepted.Accepted.{Accepted}
use Rattle.authenticode_core.specs.declared.policy.Policy.{Policy}
use Rattle.der_core.specs.Rules.{AreOneUnlessMemory}
use Rattle.key_core.specs.Verifying.{Judge}
use Rattle.program_frame.specs.Reports.{GivesReport, IsReported, Reports}
use Rattle.program_frame.proofs.Reporting.{out_of_memory, reported_is}
use Rattle.program_frame.specs.declared.report.Report.{Report}
use Rattle.program_frame.specs.declared.stop.Stop.{Stop}
use Rattle.pe_image.specs.ListAnswer.{IsProgramAnswer}
use Rattle.pe_image.specs.PeAnswer.{IsPeAnswer}
use Rattle.pe_image.specs.Report.{IsOutOfMemory, reporting, status_of}
use Rattle.pe_image.specs.declared.error.PeCheckError.{PeCheckError}
use Rattle.pe_image.specs.declared.error.PeCheckError.TheVariants.{Memory}

abbrev Answer : Type 0
Answer = Result Accepted PeCheckError

-- each result is an acceptance or a refusal
pub low : (answer : Result Accepted PeCheckError) → status_of answer ≤ 1
low (Ok a) = omega arith
low (Err e) = omega arith

-- ---- for a program

same_or_memory : (a b : Answer) → AreOneUnlessMemory Memory a b → IsOutOfMemory a ⊎ (IsOutOfMemory b ⊎ (a ≡ b))
same_or_memory a b (inl same) = inr (inr same)
same_or_memory a b (inr (inl none)) = inl (subst (λ (x : Answer). IsOutOfMemory x) (sym none) tt)
same_or_memory a b (inr (inr none)) = inr (inl (subst (λ (x : Answer). IsOutOfMemory x) (sym none) tt))

given_same : (a b : Answer) (result : Result Report Stop) → IsReported reporting a result → AreOneUnlessMemory Memory a b → GivesReport reporting b result
given_same a b result h same other = elim (same_or_memory a b same) [
  | inl wants ↦ out_of_memory reporting a b result wants h
  | inr rest ↦ elim rest [
    | inl wants ↦ absurd (other wants)
    | inr is ↦ subst (λ (x : Answer). IsReported reporting x result) is h
  ]
]

pub program_reported : (judge : Judge) (policy : Policy) (octets : List ℕ) (a : Result Accepted PeCheckError) (result : Result Report Stop)
    → IsPeAnswer judge policy octets a
    → ((b : Result Accepted PeCheckError) → IsPeAnswer judge policy octets b → AreOneUnlessMemory Memory a b)
    → IsReported reporting a result
    → Reports reporting (IsProgramAnswer judge policy octets) result
program_reported judge policy octets a result is only h =
    reported_is reporting (IsProgramAnswer judge policy octets) a result (record { is = is }) h (λ b also. given_same a b result h (only b also.is))
