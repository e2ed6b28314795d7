-- A report about a signature file with a trust list is one of each answer with the same cause.
use Rattle.std.proofs.Common.{◌≡◌, List, ◌∷◌, ℕ, Some, Result, Ok, Err, inl, inr, sym, ap, subst, ◌∙◌}
use Rattle.std.proofs.lemmas.Result.{IfOk-weaker}
use Rattle.std.specs.Borrow.{Bor}
use Rattle.key_core.specs.Verifying.{Judge}
use Rattle.asn1_types.specs.declared.generalized_time.GeneralizedTime.{GeneralizedTime}
use Rattle.authenticode_core.specs.declared.ctl.CertificateTrustList.{CertificateTrustList}
use Rattle.authenticode_core.specs.declared.error.CheckError.{CheckError}
use Rattle.authenticode_core.specs.declared.error.CheckError.TheVariants as check
use Rattle.program_frame.specs.Options.{CheckOptions}
use Rattle.program_frame.specs.declared.report.Report.{Report}
use Rattle.program_frame.specs.declared.stop.Stop.{Stop}
use Rattle.program_frame.specs.Commands.{Line}
use Rattle.program_frame.specs.Reports.{GivesReport, IsReported, Reports}
use Rattle.program_frame.proofs.Reporting.{out_of_memory, reported_is, same_report}
use Rattle.picky_check.specs.Policies.{check_policy}
use Rattle.picky_check.specs.Report.{Answer, OfSignature, OfChain, IsOutOfMemory, refused_line, reporting}
use Rattle.authenticode_core.specs.ListOctets.{IsTrustList, IsUnreadList}
use Rattle.picky_check.specs.SignatureAnswer.{IsListAnswer, IsListRefusal, IsSignatureAnswer}
use Rattle.authenticode_core.proofs.BorrowedLists.{answer_under}
use Rattle.authenticode_core.proofs.OctetsOfLists.{one_list, unread_for_memory}
use Rattle.picky_check.proofs.GivenLists.{unread_line}

wants : (e : CheckError) → e ≡ check.Memory → IsOutOfMemory (OfSignature (Err e))
wants e is = subst (λ (x : CheckError). IsOutOfMemory (OfSignature (Err x))) (sym is) tt

-- the line of a refusal, by its text
abbrev refused_as : List ℕ → Line
refused_as text = record { status = 1; text = text }

-- refusals with one line have one report
with_line : (e f : CheckError) (result : Result Report Stop) → refused_line e ≡ refused_line f → IsReported reporting (OfSignature (Err e)) result
    → GivesReport reporting (OfSignature (Err f)) result
with_line e f result same = same_report reporting (OfSignature (Err e)) (OfSignature (Err f)) result (ap refused_as same)

-- the same answer with the list elsewhere in memory
module _ (judge : Judge) (hash : List ℕ) (date : GeneralizedTime) (options : CheckOptions) (octets : List ℕ) where
  moved : (a b : Bor CertificateTrustList) → a.now ≡ b.now → (answer : Answer) → IsSignatureAnswer judge (check_policy hash date options (Some a)) octets answer
      → IsSignatureAnswer judge (check_policy hash date options (Some b)) octets answer
  moved a b same (OfSignature r) h = record { is = answer_under judge (check_policy hash date options (Some a)) (Some a) (Some b) (ap Some same) octets r h.is }
  moved a b same (OfChain r) h = absurd h

  module _ (list_octets : List ℕ) (others : List (List ℕ)) where
    -- ---- if the list is read

    no_refusal : (list : CertificateTrustList) → IsTrustList list_octets list → (answer : Answer) → IsListRefusal list_octets answer → IsOutOfMemory answer
    no_refusal list is (OfSignature (Err e)) unread = wants e (unread_for_memory list_octets list e is unread)
    no_refusal list is (OfSignature (Ok a)) unread = absurd unread
    no_refusal list is (OfChain r) unread = absurd unread

    given_read : (list : Bor CertificateTrustList) → IsTrustList list_octets list.now → (result : Result Report Stop)
        → Reports reporting (IsSignatureAnswer judge (check_policy hash date options (Some list)) octets) result
        → (answer : Answer) → IsListAnswer judge (check_policy hash date options) octets (list_octets ∷ others) answer → GivesReport reporting answer result
    given_read list is result h answer (inl unread) = λ other. absurd (other (no_refusal list.now is answer unread))
    given_read list is result h answer (inr read) =
        h.only answer (moved read.0 list (one_list list_octets read.0.now list.now read.1 is) answer read.2)

    pub read_reported : (list : Bor CertificateTrustList) → IsTrustList list_octets list.now → (result : Result Report Stop)
        → Reports reporting (IsSignatureAnswer judge (check_policy hash date options (Some list)) octets) result
        → Reports reporting (IsListAnswer judge (check_policy hash date options) octets (list_octets ∷ others)) result
    read_reported list is result h = record {
      reported = IfOk-weaker result _ _ (λ report returned. (returned.0, inr (list, is, returned.1), returned.2)) h.reported;
      stopped = h.stopped;
      only = given_read list is result h;
    }

    -- ---- if it isn't

    same_line : (e f : CheckError) (result : Result Report Stop) → IsUnreadList list_octets e → IsUnreadList list_octets f
        → IsReported reporting (OfSignature (Err e)) result
        → (IsOutOfMemory (OfSignature (Err f)) → ⊥) → IsReported reporting (OfSignature (Err f)) result
    same_line e f result a b h other = elim (unread_line list_octets e a) [
      | inl memory ↦ out_of_memory reporting (OfSignature (Err e)) (OfSignature (Err f)) result (wants e memory) h
      | inr line ↦ elim (unread_line list_octets f b) [
        | inl memory ↦ absurd (other (wants f memory))
        | inr other_line ↦ with_line e f result (line ∙ sym other_line) h other
      ]
    ]

    given_unread : (e : CheckError) → IsUnreadList list_octets e → (result : Result Report Stop) → IsReported reporting (OfSignature (Err e)) result
        → (answer : Answer) → IsListAnswer judge (check_policy hash date options) octets (list_octets ∷ others) answer → GivesReport reporting answer result
    given_unread e unread result h (OfSignature (Err f)) (inl also) = λ other. same_line e f result unread also h other
    given_unread e unread result h (OfSignature (Ok a)) (inl also) = absurd also
    given_unread e unread result h (OfChain r) (inl also) = absurd also
    given_unread e unread result h answer (inr read) =
        λ other. out_of_memory reporting (OfSignature (Err e)) answer result (wants e (unread_for_memory list_octets read.0.now e read.1 unread)) h

    pub unread_reported : (e : CheckError) → IsUnreadList list_octets e → (result : Result Report Stop) → IsReported reporting (OfSignature (Err e)) result
        → Reports reporting (IsListAnswer judge (check_policy hash date options) octets (list_octets ∷ others)) result
    unread_reported e unread result h =
        reported_is reporting (IsListAnswer judge (check_policy hash date options) octets (list_octets ∷ others)) (OfSignature (Err e)) result (inl unread) h
        (given_unread e unread result h)
