-- What the status 0 of `picky_check` and `picky_pe` means by a verifier: what the clause `vouched_for`
-- says of a run, with the verdicts of the verifier in place of those of its table.
use Rattle.std.proofs.Common.{inl, inr}
use Rattle.std.specs.Prelude.{ℕ, List, Option, Some, Ok}
use Rattle.key_core.specs.Verifying.{Judge}
use Rattle.sig_core.specs.declared.verdict_row.VerdictRow.{VerdictRow}
use Rattle.x509_core.specs.Chain.{IsAccepted}
use Rattle.authenticode_core.specs.Trusted.{IsAnswer}
use Rattle.program_frame.specs.Shelf.{ShelfState}
use Rattle.signature_questions.specs.Asked.{IsOfChain, IsQuestion}
use Rattle.signature_questions.specs.Question.{Question}
use Rattle.picky_check.specs.ChainAnswer.{all_checks}
use Rattle.picky_check.specs.Policies.{basic_policy, check_policy}
use Rattle.picky_check.specs.Vouched.{IsVouched}
use Rattle.pe_image.specs.PeAnswer.{IsPeAnswer}
use Rattle.pe_image.specs.ProgramPolicy.{program_policy}
use Rattle.pe_image.specs.Vouched.{IsVouchedProgram}

-- ---- a run of `picky_check`

-- the rows of the table that the run read
abbrev pub rows_of : {words : List (List ℕ)} → {shelf shelf_now : ShelfState}
    → {held held_now : Option (List ℕ)} → IsVouched words shelf shelf_now held held_now
    → List VerdictRow
rows_of (inl run) = run.rows
rows_of (inr (inl run)) = run.rows
rows_of (inr (inr run)) = run.rows

-- its check may ask the question: that of the file SIG, or that of the files CERT
abbrev pub MayAsk : {words : List (List ℕ)} → {shelf shelf_now : ShelfState}
    → {held held_now : Option (List ℕ)} → IsVouched words shelf shelf_now held held_now
    → Question → Type 0
MayAsk (inl run) q = IsQuestion run.signed_data q
MayAsk (inr (inl run)) q = IsQuestion run.signed_data q
MayAsk (inr (inr run)) q = IsOfChain run.checked run.parents q

-- By the verdicts of the verifier the signed data in the file SIG is trusted under the policy of the
-- words, and the index, the path and the excuse of the line that was written are those reported of it;
-- or the first of the files CERT is accepted at DATE with the others as its parents.
abbrev pub IsVouchedBy : (judge : Judge) → {words : List (List ℕ)} → {shelf shelf_now : ShelfState}
    → {held held_now : Option (List ℕ)} → IsVouched words shelf shelf_now held held_now
    → Type 0
IsVouchedBy judge (inl run) =
    IsAnswer judge (basic_policy run.hash) run.vouched.octets (Ok run.accepted)
IsVouchedBy judge (inr (inl run)) =
    IsAnswer judge (check_policy run.hash run.date run.options run.list) run.vouched.octets
    (Ok run.accepted)
IsVouchedBy judge (inr (inr run)) =
    IsAccepted judge (all_checks run.date) run.checked (Some run.parents)

-- ---- a run of `picky_pe`

-- By the verdicts of the verifier the program is trusted under the policy of the words for its own
-- digest, with the index, the path and the excuse of the line that was written.
abbrev pub IsProgramVouchedBy : (judge : Judge) → {words : List (List ℕ)}
    → {shelf shelf_now : ShelfState} → {held held_now : Option (List ℕ)}
    → IsVouchedProgram words shelf shelf_now held held_now → Type 0
IsProgramVouchedBy judge run =
    IsPeAnswer judge (program_policy run.command.date run.command.options run.list) run.octets
    (Ok run.accepted)
