-- A report about a program with a trust list is one of each result with the same cause.
use Rattle.std.proofs.Common.{◌≡◌, List, ◌∷◌, ℕ, Some, Result, Ok, Err, inl, inr, sym, ap, ◌∙◌}
use Rattle.std.proofs.lemmas.Result.{IfOk-weaker}
use Rattle.std.specs.Borrow.{Bor}
use Rattle.key_core.specs.Verifying.{Judge}
use Rattle.asn1_types.specs.declared.generalized_time.GeneralizedTime.{GeneralizedTime}
use Rattle.authenticode_core.specs.ListOctets.{IsTrustList}
use Rattle.authenticode_core.specs.declared.accepted.Accepted.{Accepted}
use Rattle.authenticode_core.specs.declared.ctl.CertificateTrustList.{CertificateTrustList}
use Rattle.program_frame.specs.Commands.{Line}
use Rattle.program_frame.specs.Options.{CheckOptions}
use Rattle.program_frame.specs.Reports.{GivesReport, IsReported, Reports}
use Rattle.program_frame.specs.declared.report.Report.{Report}
use Rattle.program_frame.specs.declared.stop.Stop.{Stop}
use Rattle.pe_image.specs.ListAnswer.{IsListAnswer, IsListRefusal, IsProgramAnswer}
use Rattle.pe_image.specs.ProgramPolicy.{program_policy}
use Rattle.pe_image.specs.Report.{IsOutOfMemory, refused_line, reporting}
use Rattle.pe_image.specs.declared.error.PeCheckError.{PeCheckError}
use Rattle.authenticode_core.proofs.OctetsOfLists.{one_list}
use Rattle.pe_image.proofs.GivenLists.{unread_for_memory, unread_line, wants}
use Rattle.pe_image.proofs.BorrowedLists.{program_under}
use Rattle.program_frame.proofs.Reporting.{out_of_memory, reported_is, same_report}

abbrev Answer : Type 0
Answer = Result Accepted PeCheckError

-- the line of a refusal, by its text
abbrev refused_as : List ℕ → Line
refused_as text = record { status = 1; text = text }

-- refusals with one line have one report
with_line : (e f : PeCheckError) (result : Result Report Stop) → refused_line e ≡ refused_line f → IsReported reporting (Err e) result
    → GivesReport reporting (Err f) result
with_line e f result same = same_report reporting (Err e) (Err f) result (ap refused_as same)

-- the same result with the list at another place
module _ (judge : Judge) (date : GeneralizedTime) (options : CheckOptions) (octets : List ℕ) where
  moved : (a b : Bor CertificateTrustList) → a.now ≡ b.now → (answer : Answer) → IsProgramAnswer judge (program_policy date options (Some a)) octets answer
      → IsProgramAnswer judge (program_policy date options (Some b)) octets answer
  moved a b same answer h = record { is = program_under judge (program_policy date options (Some a)) (Some a) (Some b) (ap Some same) octets answer h.is }

  module _ (list_octets : List ℕ) (others : List (List ℕ)) where
    -- ---- if the list is read

    given_read : (list : Bor CertificateTrustList) → IsTrustList list_octets list.now → (result : Result Report Stop)
        → Reports reporting (IsProgramAnswer judge (program_policy date options (Some list)) octets) result
        → (answer : Answer) → IsListAnswer judge (program_policy date options) octets (list_octets ∷ others) answer → GivesReport reporting answer result
    given_read list is result h answer (inl unread) = λ other. absurd (other (unread_for_memory list_octets list.now answer is unread))
    given_read list is result h answer (inr read) =
        h.only answer (moved read.0 list (one_list list_octets read.0.now list.now read.1 is) answer read.2)

    pub read_reported : (list : Bor CertificateTrustList) → IsTrustList list_octets list.now → (result : Result Report Stop)
        → Reports reporting (IsProgramAnswer judge (program_policy date options (Some list)) octets) result
        → Reports reporting (IsListAnswer judge (program_policy date options) octets (list_octets ∷ others)) result
    read_reported list is result h = record {
      reported = IfOk-weaker result _ _ (λ report returned. (returned.0, inr (list, is, returned.1), returned.2)) h.reported;
      stopped = h.stopped;
      only = given_read list is result h;
    }

    -- ---- if it isn't

    same_line : (e f : PeCheckError) (result : Result Report Stop) → IsListRefusal list_octets (Err e) → IsListRefusal list_octets (Err f)
        → IsReported reporting (Err e) result
        → (IsOutOfMemory (Err f) → ⊥) → IsReported reporting (Err f) result
    same_line e f result a b h other = elim (unread_line list_octets e a) [
      | inl memory ↦ out_of_memory reporting (Err e) (Err f) result (wants e memory) h
      | inr line ↦ elim (unread_line list_octets f b) [
        | inl memory ↦ absurd (other (wants f memory))
        | inr other_line ↦ with_line e f result (line ∙ sym other_line) h other
      ]
    ]

    given_unread : (e : PeCheckError) → IsListRefusal list_octets (Err e) → (result : Result Report Stop) → IsReported reporting (Err e) result
        → (answer : Answer) → IsListAnswer judge (program_policy date options) octets (list_octets ∷ others) answer → GivesReport reporting answer result
    given_unread e unread result h (Err f) (inl also) = λ other. same_line e f result unread also h other
    given_unread e unread result h (Ok a) (inl also) = absurd also
    given_unread e unread result h answer (inr read) =
        λ other. out_of_memory reporting (Err e) answer result (unread_for_memory list_octets read.0.now (Err e) read.1 unread) h

    pub unread_reported : (e : PeCheckError) → IsListRefusal list_octets (Err e) → (result : Result Report Stop) → IsReported reporting (Err e) result
        → Reports reporting (IsListAnswer judge (program_policy date options) octets (list_octets ∷ others)) result
    unread_reported e unread result h =
        reported_is reporting (IsListAnswer judge (program_policy date options) octets (list_octets ∷ others)) (Err e) result (inl unread) h
        (given_unread e unread result h)
