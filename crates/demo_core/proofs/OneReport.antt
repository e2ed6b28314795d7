-- Demonstrations of as many steps report the same.
use Rattle.std.proofs.Common.{◌≡◌, ℕ, suc, List, [], ◌∷◌, length, refl, sym, ap₂, subst, ◌∙◌, arith}
use Rattle.asn1_types.specs.Facts.Times.{same_generalized}
use Rattle.asn1_types.specs.declared.generalized_time.GeneralizedTime.{GeneralizedTime}
use Rattle.x509_core.specs.History.{History, IssuingStep, IsValidAt}
use Rattle.der_core.specs.Counting.{IsCount}
use Rattle.demo_core.specs.Acceptance.{IsRootAt}
use Rattle.demo_core.specs.Demonstration.{IsDemonstration}
use Rattle.demo_core.specs.History.{demo_history}
use Rattle.demo_core.specs.Issuing.{AreRecords, IsRecordOf}
use Rattle.demo_core.specs.declared.demonstration.Demonstration.{Demonstration}
use Rattle.demo_core.specs.declared.history.Step.{Step}
use Rattle.der_core.proofs.Counting.{count_once}
use Rattle.demo_core.proofs.Whole.{history_length}

-- ---- histories

one_record : (step : Step) (a b : IssuingStep) → IsRecordOf step a → IsRecordOf step b → a ≡ b
one_record step a b p q =
    let issuers = p.issuer ∙ sym q.issuer in
    let flags = p.ca ∙ sym q.ca in
    let lengths = p.path_length ∙ sym q.path_length in
    let begins = same_generalized a.not_before b.not_before (p.begins ∙ sym q.begins) in
    let ends = same_generalized a.not_after b.not_after (p.ends ∙ sym q.ends) in
    λ i. record { issuer = issuers i; ca = flags i; pathlen = lengths i; not_before = begins i; not_after = ends i }

one_history : (steps : List Step) (a b : History) → length a ≡ length steps → length b ≡ length steps → AreRecords steps a → AreRecords steps b → a ≡ b
one_history [] [] [] all all' p q = refl
one_history [] (r ∷ a) b all all' p q = absurd (omega (arith, all))
one_history [] [] (r ∷ b) all all' p q = absurd (omega (arith, all'))
one_history (step ∷ steps) [] b all all' p q = absurd (omega (arith, all))
one_history (step ∷ steps) (r ∷ a) [] all all' p q = absurd (omega (arith, all'))
one_history (step ∷ steps) (r ∷ a) (t ∷ b) all all' p q =
    let first : r ≡ t = one_record step r t (p 0 step r refl refl) (q 0 step t refl refl) in
    let others : a ≡ b = one_history steps a b (omega (arith, all)) (omega (arith, all')) (λ index s recorded has is. p (suc index) s recorded has is)
    (λ index s recorded has is. q (suc index) s recorded has is) in
    ap₂ (λ (x : IssuingStep) (xs : History). x ∷ xs) first others

-- ---- reports

pub one_report : (count : ℕ) (a b : Demonstration) → IsDemonstration count a → IsDemonstration count b → a ≡ b
one_report count a b p q =
    let histories = one_history (demo_history count) p.made.history q.made.history (p.made.of.all ∙ sym (history_length count))
    (q.made.of.all ∙ sym (history_length count)) p.made.of.records q.made.of.records in
    let dates = same_generalized p.date q.date (p.dated ∙ sym q.dated) in
    let at_date = subst (λ (date : GeneralizedTime). IsCount (λ index. IsValidAt p.made.history index date) count a.accepted) dates p.accepted in
    let valid = subst (λ (history : History). IsCount (λ index. IsValidAt history index q.date) count a.accepted) histories at_date in
    let steps = p.steps ∙ sym q.steps in
    let roots = count_once (IsRootAt (demo_history count)) count a.roots b.roots p.roots q.roots in
    let accepted = count_once (λ index. IsValidAt q.made.history index q.date) count a.accepted b.accepted valid q.accepted in
    let sums = p.sum ∙ sym q.sum in
    λ i. record { steps = steps i; roots = roots i; accepted = accepted i; sum = sums i }
