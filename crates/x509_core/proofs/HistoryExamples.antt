-- Small histories, worked out: which steps are valid on a day, and which aren't.
use Rattle.std.proofs.Common.{◌≡◌, ◌≤◌, ℕ, Bool, true, false, List, [], ◌∷◌, Option, Some, None, refl, sym, subst, arith}
use Rattle.std.specs.List.{slice_get}
use Rattle.asn1_types.specs.declared.generalized_time.GeneralizedTime.{GeneralizedTime}
use Rattle.x509_core.specs.Chain.{last_of}
use Rattle.x509_core.specs.History.{IssuingStep, History, HasStep, AreAncestors, IsDuring, IsAllowed, AreAllowed, IsValidAt}
use Rattle.x509_core.specs.Window.{IsEarlier}
use Rattle.x509_core.proofs.Histories.{step_once, ancestors_once}
use Rattle.x509_core.proofs.Rows.{HoldRow, holds_of_row}

-- On the day all steps below are valid; on the late one they are over.
module _ (start day end late : GeneralizedTime) (begun : IsEarlier day start → ⊥) (lasts : IsEarlier end day → ⊥) (over : IsEarlier end late) where
  abbrev step_by : Option ℕ → Bool → Option ℕ → IssuingStep
  step_by issuer ca pathlen = record { issuer = issuer; ca = ca; pathlen = pathlen; not_before = start; not_after = end }

  during : (issuer : Option ℕ) (ca : Bool) (pathlen : Option ℕ) → IsDuring (step_by issuer ca pathlen) day
  during issuer ca pathlen = record { begun = begun; lasts = lasts }

  zero_is_least : (limit : ℕ) → 0 ≤ limit
  zero_is_least limit = omega arith

  abbrev Allows : History → ℕ → ℕ → Type 0
  Allows history number index = (step : IssuingStep) → HasStep history index step → IsAllowed day number step

  -- the nearest ancestor is allowed, whatever its path length
  first_allowed : (history : History) (index : ℕ) (issuer pathlen : Option ℕ) → HasStep history index (step_by issuer true pathlen) → Allows history 0 index
  first_allowed history index issuer pathlen is step has =
      subst (IsAllowed day 0) (step_once history index (step_by issuer true pathlen) step is has)
      (record { authority = refl; depth = λ limit e. zero_is_least limit; valid = during issuer true pathlen })

  unlimited : (limit : ℕ) → None ≡ Some limit → ⊥
  unlimited limit e = absurd cc

  -- one without a path length is allowed with any number
  unlimited_allowed : (history : History) (number index : ℕ) (issuer : Option ℕ) → HasStep history index (step_by issuer true None)
      → Allows history number index
  unlimited_allowed history number index issuer is step has =
      subst (IsAllowed day number) (step_once history index (step_by issuer true None) step is has)
      (record { authority = refl; depth = λ limit e. absurd (unlimited limit e); valid = during issuer true None })

  all_allowed : (history : History) (ancestors : List ℕ) → HoldRow (Allows history) 0 ancestors → AreAllowed history day ancestors
  all_allowed history ancestors row number ancestor step at has = holds_of_row (Allows history) ancestors row number ancestor at step has

  -- ---- a root, a CA that may issue no further CA, and a CA below it all the same, with a leaf each

  abbrev limited : History
  limited =
      step_by None true None ∷ step_by (Some 0) true (Some 0) ∷ step_by (Some 1) false None ∷ step_by (Some 1) true None ∷ step_by (Some 3) false None ∷ []

  line_of_2 : AreAncestors limited 2 (1 ∷ 0 ∷ [])
  line_of_2 =
      ((record { step = _; is = refl; issued = refl }, (record { step = _; is = refl; issued = refl }, tt)), record { step = _; is = refl; unissued = refl })

  line_of_4 : AreAncestors limited 4 (3 ∷ 1 ∷ 0 ∷ [])
  line_of_4 = (
    (record { step = _; is = refl; issued = refl }, (record { step = _; is = refl; issued = refl }, (record { step = _; is = refl; issued = refl }, tt))),
    record { step = _; is = refl; unissued = refl },
  )

  -- a leaf of a CA with path length 0 is valid: its CA has number 0
  pub leaf_is_valid : IsValidAt limited 2 day
  leaf_is_valid = record {
    step = step_by (Some 1) false None;
    is = refl;
    valid = during (Some 1) false None;
    ancestors = 1 ∷ 0 ∷ [];
    are = line_of_2;
    allowed = all_allowed limited (1 ∷ 0 ∷ []) (first_allowed limited 1 (Some 0) (Some 0) refl, (unlimited_allowed limited 1 0 None refl, tt));
    rooted = λ root has. subst (λ (s : IssuingStep). s.ca ≡ true) (step_once limited 0 (step_by None true None) root refl has) refl;
  }

  none_less : 1 ≤ 0 → ⊥
  none_less e = omega (arith, e)

  at_1 : (ancestors : List ℕ) → ancestors ≡ 3 ∷ 1 ∷ 0 ∷ [] → slice_get ancestors 1 ≡ Some 1
  at_1 ancestors e = subst (λ (zs : List ℕ). slice_get zs 1 ≡ Some 1) (sym e) refl

  -- a leaf of a CA below it isn't: one certificate is between
  pub deeper_is_not : IsValidAt limited 4 day → ⊥
  deeper_is_not valid =
      let same = ancestors_once limited 4 valid.ancestors (3 ∷ 1 ∷ 0 ∷ []) valid.are line_of_4 in
      let allowed = valid.allowed 1 1 (step_by (Some 0) true (Some 0)) (at_1 valid.ancestors same) refl in
      none_less (allowed.depth 0 refl)

  -- ---- a root that isn't a CA

  abbrev lone : History
  lone = step_by None false None ∷ []

  false_is_true : false ≡ true → ⊥
  false_is_true e = absurd cc

  -- it isn't valid, though it has no ancestors
  pub lone_is_not : IsValidAt lone 0 day → ⊥
  lone_is_not valid =
      let line : AreAncestors lone 0 [] = (tt, record { step = _; is = refl; unissued = refl }) in
      let same = ancestors_once lone 0 valid.ancestors [] valid.are line in
      false_is_true (valid.rooted (step_by None false None) (subst (λ (zs : List ℕ). HasStep lone (last_of 0 zs) (step_by None false None)) (sym same) refl))

  -- ---- a certificate that outlives its issuer's

  abbrev outliving : History
  outliving = step_by None true None ∷ record { issuer = Some 0; ca = false; pathlen = None; not_before = start; not_after = late } ∷ []

  at_0 : (ancestors : List ℕ) → ancestors ≡ 0 ∷ [] → slice_get ancestors 0 ≡ Some 0
  at_0 ancestors e = subst (λ (zs : List ℕ). slice_get zs 0 ≡ Some 0) (sym e) refl

  -- it isn't valid once that is over
  pub outliving_is_not : IsValidAt outliving 1 late → ⊥
  outliving_is_not valid =
      let line : AreAncestors outliving 1 (0 ∷ []) = ((record { step = _; is = refl; issued = refl }, tt), record { step = _; is = refl; unissued = refl }) in
      let same = ancestors_once outliving 1 valid.ancestors (0 ∷ []) valid.are line in
      let allowed = valid.allowed 0 0 (step_by None true None) (at_0 valid.ancestors same) refl in
      allowed.valid.lasts over

  -- ---- a CA that may issue one further CA, that CA, and a leaf of it

  abbrev of_length_one : History
  of_length_one = step_by None true None ∷ step_by (Some 0) true (Some 1) ∷ step_by (Some 1) true None ∷ step_by (Some 2) false None ∷ []

  line_of_3 : AreAncestors of_length_one 3 (2 ∷ 1 ∷ 0 ∷ [])
  line_of_3 = (
    (record { step = _; is = refl; issued = refl }, (record { step = _; is = refl; issued = refl }, (record { step = _; is = refl; issued = refl }, tt))),
    record { step = _; is = refl; unissued = refl },
  )

  one_within_one : 1 ≤ 1
  one_within_one = omega arith

  one_at_most : (limit : ℕ) → Some 1 ≡ Some limit → 1 ≤ limit
  one_at_most limit e = let same : 1 ≡ limit = cc in subst (λ (n : ℕ). 1 ≤ n) same one_within_one

  -- one with path length 1 is allowed with number 1
  second_allowed : (history : History) (index : ℕ) (issuer : Option ℕ) → HasStep history index (step_by issuer true (Some 1)) → Allows history 1 index
  second_allowed history index issuer is step has =
      subst (IsAllowed day 1) (step_once history index (step_by issuer true (Some 1)) step is has)
      (record { authority = refl; depth = one_at_most; valid = during issuer true (Some 1) })

  -- the leaf is valid: the CA with path length 1 has number 1
  pub second_is_valid : IsValidAt of_length_one 3 day
  second_is_valid = record {
    step = step_by (Some 2) false None;
    is = refl;
    valid = during (Some 2) false None;
    ancestors = 2 ∷ 1 ∷ 0 ∷ [];
    are = line_of_3;
    allowed = all_allowed of_length_one (2 ∷ 1 ∷ 0 ∷ []) (
      first_allowed of_length_one 2 (Some 1) None refl,
      (second_allowed of_length_one 1 (Some 0) refl, (unlimited_allowed of_length_one 2 0 None refl, tt)),
    );
    rooted = λ root has. subst (λ (s : IssuingStep). s.ca ≡ true) (step_once of_length_one 0 (step_by None true None) root refl has) refl;
  }

  -- ---- a certificate issued by one that isn't a CA

  abbrev below_leaf : History
  below_leaf = step_by None true None ∷ step_by (Some 0) false None ∷ step_by (Some 1) false None ∷ []

  first_of_two : (ancestors : List ℕ) → ancestors ≡ 1 ∷ 0 ∷ [] → slice_get ancestors 0 ≡ Some 1
  first_of_two ancestors e = subst (λ (zs : List ℕ). slice_get zs 0 ≡ Some 1) (sym e) refl

  -- it isn't valid
  pub below_leaf_is_not : IsValidAt below_leaf 2 day → ⊥
  below_leaf_is_not valid =
      let line : AreAncestors below_leaf 2 (1 ∷ 0 ∷ []) =
      ((record { step = _; is = refl; issued = refl }, (record { step = _; is = refl; issued = refl }, tt)), record { step = _; is = refl; unissued = refl }) in
      let same = ancestors_once below_leaf 2 valid.ancestors (1 ∷ 0 ∷ []) valid.are line in
      let allowed = valid.allowed 0 1 (step_by (Some 0) false None) (first_of_two valid.ancestors same) refl in
      false_is_true allowed.authority

  -- ---- a certificate whose issuer's begins later

  abbrev early : History
  early = record { issuer = None; ca = true; pathlen = None; not_before = late; not_after = late } ∷ step_by (Some 0) false None ∷ []

  -- it isn't valid before that begins
  pub early_is_not : IsValidAt early 1 end → ⊥
  early_is_not valid =
      let line : AreAncestors early 1 (0 ∷ []) = ((record { step = _; is = refl; issued = refl }, tt), record { step = _; is = refl; unissued = refl }) in
      let same = ancestors_once early 1 valid.ancestors (0 ∷ []) valid.are line in
      let allowed =
      valid.allowed 0 0 (record { issuer = None; ca = true; pathlen = None; not_before = late; not_after = late }) (at_0 valid.ancestors same) refl in
      allowed.valid.begun over
