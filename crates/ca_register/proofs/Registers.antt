-- A register with one certificate more.
use Rattle.std.proofs.Common.{◌≡◌, ◌<◌, ◌≤◌, ◌⊎◌, ℕ, zero, suc, IsTrue, List, [], ◌∷◌, ◌++◌, length, Some, None, inl, inr, refl, sym, ap, subst, ◌∙◌, arith}
use Rattle.std.specs.List.{slice_get}
use Rattle.std.proofs.lemmas.Bool.{cases_lt}
use Rattle.std.proofs.lemmas.Option.{slice_get_within}
use Rattle.key_core.specs.Verifying.{Judge}
use Rattle.x509_core.specs.History.{AreAncestors, HasStep, History, IsRootStep, IssuingStep}
use Rattle.x509_core.specs.Issued.{IsIssued, IsNext}
use Rattle.x509_core.specs.OwnedCertificate.{KeptCertificate}
use Rattle.x509_core.proofs.Chains.{map_more}
use Rattle.x509_core.proofs.GrowingHistories.{IsOldOrNew, issued_with_step, old_or_new}
use Rattle.x509_core.proofs.Validity.{same_some}
use Rattle.ca_register.specs.Authorities.{AreAuthorities, IsRegister}
use Rattle.ca_register.specs.Entries.{HasEntry, history_of, step_of}
use Rattle.ca_register.specs.Issuing.{NoneTooShort}
use Rattle.ca_register.specs.declared.entry.Entry.{Entry}
use Rattle.ca_register.proofs.Lines.{ancestor_within, nothing_at, old_ancestors, old_step}
use Rattle.ca_register.proofs.Records.{IsStepOf, entry_of}

-- ---- no certificate yet

pub no_certificate : (judge : Judge) → IsRegister judge [] []
no_certificate judge = record {
  issued = record {
    ordered = λ index issuer has. absurd (nothing_at index has.step has.is);
    all = refl;
    recorded = λ index step cert has is. absurd (nothing_at index step has);
    roots = λ index cert root is. absurd (nothing_at index cert is);
    issued = λ index issuer parent child has is_parent is_child. absurd (nothing_at index child is_child);
  };
  allowed = λ place ancestors are number at step is has. absurd (nothing_at at step has);
  rooted = λ place root. absurd (nothing_at place root.step root.is);
}

-- ---- the ancestors of the next certificate

module _ (judge : Judge) (entries : List Entry) (certificates : List KeptCertificate) (is : IsRegister judge entries certificates) where
  abbrev Steps : History
  Steps = history_of entries

  module _ (issuer : ℕ) (able : (entry : Entry) × HasEntry entries issuer entry × IsTrue entry.grant.ca) (deep : NoneTooShort entries issuer)
      (ancestors : List ℕ) (are : AreAncestors Steps issuer ancestors) where
    deep_enough : (number place : ℕ) (step : IssuingStep) → slice_get (issuer ∷ ancestors) number ≡ Some place → HasStep Steps place step → (limit : ℕ)
        → step.pathlen ≡ Some limit → number ≤ limit
    deep_enough number place step at has limit limited = by (cases_lt limit number)
      where
        of : IsStepOf entries place step
        of = entry_of entries place step has

        by : (limit < number) ⊎ (number ≤ limit) → number ≤ limit
        by (inl short) = absurd (deep (issuer ∷ ancestors) number (record { ancestors = ancestors; is = refl; are = are })
            (record {
              place = place;
              at = at;
              entry = of.entry;
              has = of.has;
              limit = limit;
              limited = ap (λ (s : IssuingStep). s.pathlen) of.is ∙ limited;
              short = short;
            }))
        by (inr enough) = enough

    ca_at : (number place : ℕ) (step : IssuingStep) → slice_get (issuer ∷ ancestors) number ≡ Some place → HasStep Steps place step → IsTrue step.ca
    ca_at zero place step at has =
        let of = entry_of entries place step has in
        let same : able.0 ≡ of.entry = same_some able.0 of.entry (sym able.1 ∙ ap (slice_get entries) (same_some issuer place at) ∙ of.has) in
        subst (λ (s : IssuingStep). IsTrue s.ca) of.is (subst (λ (e : Entry). IsTrue e.grant.ca) same able.2)
    ca_at (suc number) place step at has = (is.allowed issuer ancestors are number place step at has).authority

    pub authorities_above : AreAuthorities Steps (issuer ∷ ancestors)
    authorities_above number place step at has = record { authority = ca_at number place step at has; depth = deep_enough number place step at has }

  -- ---- the certificate itself

  module _ (entry : Entry) (cert : KeptCertificate) (next : IsNext judge certificates (step_of entry) cert) (root : entry.issuer ≡ None → IsTrue entry.grant.ca)
      (able : (issuer : ℕ) (ancestors : List ℕ) → entry.issuer ≡ Some issuer → AreAncestors Steps issuer ancestors
      → AreAuthorities Steps (issuer ∷ ancestors)) where
    abbrev Longer : History
    Longer = Steps ++ step_of entry ∷ []

    issued : IsIssued judge Longer (certificates ++ cert ∷ [])
    issued = issued_with_step judge Steps certificates (step_of entry) cert is.issued next

    -- what holds of ancestors still holds
    still : (place : ℕ) (ancestors : List ℕ) → AreAncestors Steps place ancestors → AreAuthorities Steps ancestors → AreAuthorities Longer ancestors
    still place ancestors are hold number ancestor step at has =
        hold number ancestor step at (old_step Steps (step_of entry) ancestor step (ancestor_within Steps place ancestors number ancestor are at) has)

    still_above : (issuer : ℕ) (ancestors : List ℕ) → AreAncestors Steps issuer ancestors → AreAuthorities Steps (issuer ∷ ancestors)
        → AreAuthorities Longer (issuer ∷ ancestors)
    still_above issuer ancestors are hold number ancestor step at has =
        hold number ancestor step at (old_step Steps (step_of entry) ancestor step (within number at) has)
      where
        within : (number : ℕ) → slice_get (issuer ∷ ancestors) number ≡ Some ancestor → ancestor < length Steps
        within zero at = subst (λ (i : ℕ). i < length Steps) (same_some issuer ancestor at) (issuer_within ancestors are)
          where
            issuer_within : (rest : List ℕ) → AreAncestors Steps issuer rest → issuer < length Steps
            issuer_within [] a = slice_get_within Steps issuer a.1.step a.1.is
            issuer_within (i ∷ rest) a = slice_get_within Steps issuer a.0.0.step a.0.0.is
        within (suc n) at = ancestor_within Steps issuer ancestors n ancestor are at

    last_allowed : (place : ℕ) (ancestors : List ℕ) → place ≡ length Steps → AreAncestors Longer place ancestors → AreAuthorities Longer ancestors
    last_allowed place [] at are = λ number ancestor step found has. absurd (nothing_at number ancestor found)
    last_allowed place (issuer ∷ ancestors) at are =
        let has = are.0.0 in
        let earlier = issued.ordered place issuer has in
        let above = old_ancestors Steps (step_of entry) issued.ordered issuer ancestors (omega (arith, earlier, at)) (are.0.1, are.1) in
        still_above issuer ancestors above (able issuer ancestors (by (old_or_new Steps (step_of entry) place has.step has.is)) above)
      where
        by : IsOldOrNew Steps (step_of entry) place are.0.0.step → entry.issuer ≡ Some issuer
        by (inl old) = absurd (omega (arith, slice_get_within Steps place are.0.0.step old, at))
        by (inr (here, same)) = ap (λ (s : IssuingStep). s.issuer) (sym same) ∙ are.0.0.issued

    allowed : (place : ℕ) (ancestors : List ℕ) → AreAncestors Longer place ancestors → AreAuthorities Longer ancestors
    allowed place ancestors are = by (cases_lt place (length Steps))
      where
        place_is : (rest : List ℕ) → AreAncestors Longer place rest → length Steps ≤ place → place ≡ length Steps
        place_is [] a past = last_place (old_or_new Steps (step_of entry) place a.1.step a.1.is) past
          where
            last_place : IsOldOrNew Steps (step_of entry) place a.1.step → length Steps ≤ place → place ≡ length Steps
            last_place (inl old) past = absurd (omega (arith, slice_get_within Steps place a.1.step old, past))
            last_place (inr (here, same)) past = here
        place_is (i ∷ rest) a past = last_place (old_or_new Steps (step_of entry) place a.0.0.step a.0.0.is) past
          where
            last_place : IsOldOrNew Steps (step_of entry) place a.0.0.step → length Steps ≤ place → place ≡ length Steps
            last_place (inl old) past = absurd (omega (arith, slice_get_within Steps place a.0.0.step old, past))
            last_place (inr (here, same)) past = here

        by : (place < length Steps) ⊎ (length Steps ≤ place) → AreAuthorities Longer ancestors
        by (inl old) =
            let before = old_ancestors Steps (step_of entry) issued.ordered place ancestors old are in
            still place ancestors before (is.allowed place ancestors before)
        by (inr past) = last_allowed place ancestors (place_is ancestors are past) are

    rooted : (place : ℕ) (r : IsRootStep Longer place) → IsTrue r.step.ca
    rooted place r = by (old_or_new Steps (step_of entry) place r.step r.is)
      where
        by : IsOldOrNew Steps (step_of entry) place r.step → IsTrue r.step.ca
        by (inl old) = is.rooted place (record { step = r.step; is = old; unissued = r.unissued })
        by (inr (here, same)) = subst (λ (s : IssuingStep). IsTrue s.ca) (sym same) (root (ap (λ (s : IssuingStep). s.issuer) (sym same) ∙ r.unissued))

    pub with_certificate : IsRegister judge (entries ++ entry ∷ []) (certificates ++ cert ∷ [])
    with_certificate =
        let more = sym (map_more step_of entries entry) in
        record {
          issued = subst (λ (h : History). IsIssued judge h (certificates ++ cert ∷ [])) more issued;
          allowed = subst (λ (h : History). (place : ℕ) (ancestors : List ℕ) → AreAncestors h place ancestors → AreAuthorities h ancestors) more allowed;
          rooted = subst (λ (h : History). (place : ℕ) (r : IsRootStep h place) → IsTrue r.step.ca) more rooted;
        }
