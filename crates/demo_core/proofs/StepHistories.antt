-- The certificates of some steps, with that of the next one.
use Rattle.std.proofs.Common.{◌≡◌, ◌<◌, false, nat_lt, ℕ, ◌+◌, List, [], ◌∷◌, ◌++◌, length, Some, inl, inr, refl, sym, ap, subst, ◌∙◌, arith}
use Rattle.std.specs.List.{slice_get}
use Rattle.std.proofs.lemmas.Bool.{ltb-false}
use Rattle.std.proofs.lemmas.Option.{slice_get_cases, slice_get_within}
use Rattle.asn1_types.specs.Calendar.{IsMoment, IsUtcYear}
use Rattle.asn1_types.specs.declared.generalized_time.GeneralizedTime.{GeneralizedTime}
use Rattle.sig_core.specs.DemoScheme.{demo_verdict}
use Rattle.x509_core.specs.History.{IssuingStep}
use Rattle.x509_core.specs.Issued.{HasCert, IsNext}
use Rattle.x509_core.specs.OwnedCertificate.{KeptCertificate}
use Rattle.x509_core.proofs.Chains.{one_more}
use Rattle.x509_core.proofs.GrowingHistories.{IsOldOrNew, issued_with_step, old_or_new}
use Rattle.x509_core.proofs.Validity.{same_some}
use Rattle.demo_core.specs.History.{IsStepAt}
use Rattle.demo_core.specs.Issuing.{AreRecords, AreStepCerts, IsOfSubject, IsRecordOf, IsStepCert}
use Rattle.demo_core.specs.declared.history.Step.{Step}

-- ---- the record of a step

first_moment : (year : ℕ) → IsUtcYear year → IsMoment year 1 1 0 0 0
first_moment year utc = record {
  date = record {
    four_digits = omega (arith, utc.last_year);
    first_month = omega arith;
    last_month = omega arith;
    first_day = omega arith;
    last_day = omega arith;
  };
  last_hour = omega arith;
  last_minute = omega arith;
  last_second = omega arith;
}

first_second : (year : ℕ) → IsUtcYear year → GeneralizedTime
first_second year utc = record { year = year; month = 1; day = 1; hour = 0; minute = 0; second = 0; exists = first_moment year utc }

record_of : (index : ℕ) (step : Step) → IsStepAt index step → IssuingStep
record_of index step at = record {
  issuer = step.issuer;
  ca = step.ca;
  pathlen = step.path_length;
  not_before = first_second step.years.first at.begins;
  not_after = first_second step.years.last at.ends;
}

is_record : (index : ℕ) (step : Step) (at : IsStepAt index step) → IsRecordOf step (record_of index step at)
unfolding record_of first_second
is_record index step at = record { issuer = refl; ca = refl; path_length = refl; begins = refl; ends = refl }

-- ---- one step more

module _ (steps : List Step) (k : ℕ) (certificates : List KeptCertificate) (step : Step) (cert : KeptCertificate) (at : IsStepAt k step)
    (has : slice_get steps k ≡ Some step)
    (so_far : AreStepCerts steps k certificates) (is : IsStepCert k step cert)
    (next : (recorded : IssuingStep) → IsRecordOf step recorded → IsNext demo_verdict certificates recorded cert) where
  abbrev Recorded : IssuingStep
  Recorded = record_of k step at

  records_more : AreRecords steps (so_far.history ++ Recorded ∷ [])
  records_more index s recorded found held = by (old_or_new so_far.history Recorded index recorded held)
    where
      by : IsOldOrNew so_far.history Recorded index recorded → IsRecordOf s recorded
      by (inl old) = so_far.of.records index s recorded found old
      by (inr (last, same)) =
          let here : index ≡ k = last ∙ so_far.of.all in
          let step_is : step ≡ s = same_some step s (sym has ∙ ap (slice_get steps) (sym here) ∙ found) in
          subst (λ (r : IssuingStep). IsRecordOf s r) (sym same) (subst (λ (x : Step). IsRecordOf x Recorded) step_is (is_record k step at))

  each_more : (index : ℕ) (s : Step) (c : KeptCertificate) → slice_get steps index ≡ Some s → HasCert (certificates ++ cert ∷ []) index c → IsStepCert index s c
  each_more index s c found held = by (old_or_new certificates cert index c held)
    where
      by : IsOldOrNew certificates cert index c → IsStepCert index s c
      by (inl old) = so_far.each index s c found old
      by (inr (last, same)) =
          let here : index ≡ k = last ∙ so_far.of.issued.all ∙ so_far.of.all in
          let step_is : step ≡ s = same_some step s (sym has ∙ ap (slice_get steps) (sym here) ∙ found) in
          subst (λ (x : KeptCertificate). IsStepCert index s x) (sym same)
          (subst (λ (x : Step). IsStepCert index x cert) step_is (subst (λ (i : ℕ). IsStepCert i step cert) (sym here) is))

  pub with_step : AreStepCerts steps (k + 1) (certificates ++ cert ∷ [])
  with_step = record {
    history = so_far.history ++ Recorded ∷ [];
    of = record {
      all =
          let more = one_more so_far.history Recorded in
          omega (arith, more, so_far.of.all);
      records = records_more;
      issued = issued_with_step demo_verdict so_far.history certificates Recorded cert so_far.of.issued (next Recorded (is_record k step at));
    };
    each = each_more;
  }

-- ---- the issuer of the next step

module _ (steps : List Step) (k : ℕ) (certificates : List KeptCertificate) (so_far : AreStepCerts steps k certificates) where
  abbrev HasParent : ℕ → Type 0
  HasParent issuer = (parent : KeptCertificate) × HasCert certificates issuer parent × IsOfSubject issuer parent

  parent_of : (issuer : ℕ) (step : Step) → slice_get steps issuer ≡ Some step → issuer < k → HasParent issuer
  parent_of issuer step found earlier = elim ((slice_get_cases certificates issuer).1) [
    | inl (parent, within, is, read) ↦ (parent, is, (so_far.each issuer step parent found is).subject)
    | inr (past, none) ↦ absurd (omega (arith, past, earlier, so_far.of.all, so_far.of.issued.all))
  ]

  pub parent_at : (issuer : ℕ) → k < length steps → issuer < k → HasParent issuer
  parent_at issuer within earlier = elim ((slice_get_cases steps issuer).1) [
    | inl (step, inside, is, read) ↦ parent_of issuer step is earlier
    | inr (past, none) ↦ absurd (omega (arith, past, earlier, within))
  ]

pub none_past : {A : Type 0} (items : List A) (index : ℕ) (item : A) → slice_get items index ≡ Some item → false ≡ nat_lt index (length items) → ⊥
none_past items index item found past =
    omega (arith, slice_get_within items index item found, ltb-false index (length items) (sym past))

-- ---- no step yet

nothing_at : {A : Type 0} (index : ℕ) (item : A) → slice_get {X = A} [] index ≡ Some item → ⊥
nothing_at index item e = absurd cc

pub no_step : (steps : List Step) → AreStepCerts steps 0 []
no_step steps = record {
  history = [];
  of = record {
    all = refl;
    records = λ index step recorded found held. absurd (nothing_at index recorded held);
    issued = record {
      ordered = λ index issuer has. absurd (nothing_at index has.step has.is);
      all = refl;
      recorded = λ index step cert has is. absurd (nothing_at index step has);
      roots = λ index cert root is. absurd (nothing_at index cert is);
      issued = λ index issuer parent child has is_parent is_child. absurd (nothing_at index child is_child);
    };
  };
  each = λ index step cert found held. absurd (nothing_at index cert held);
}
