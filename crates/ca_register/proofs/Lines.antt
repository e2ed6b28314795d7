-- The ancestors of an entry, in a register and in one with an entry more.
use Rattle.std.proofs.Common.{◌≡◌, ◌<◌, ℕ, zero, suc, List, [], ◌∷◌, ◌++◌, length, Some, inl, inr, subst, arith}
use Rattle.std.specs.List.{slice_get}
use Rattle.std.proofs.lemmas.Option.{slice_get_within}
use Rattle.x509_core.specs.History.{AreAncestors, HasIssuer, HasStep, History, IsOrdered, IsRootStep, IssuingStep}
use Rattle.x509_core.proofs.GrowingHistories.{IsOldOrNew, old_or_new}
use Rattle.x509_core.proofs.Validity.{same_some}

pub nothing_at : {A : Type 0} (index : ℕ) (item : A) → slice_get {X = A} [] index ≡ Some item → ⊥
nothing_at index item e = absurd cc

pub here_within : (history : History) (index : ℕ) (ancestors : List ℕ) → AreAncestors history index ancestors → index < length history
here_within history index [] are = slice_get_within history index are.1.step are.1.is
here_within history index (issuer ∷ ancestors) are = slice_get_within history index are.0.0.step are.0.0.is

-- each ancestor is one of the history
pub ancestor_within : (history : History) (index : ℕ) (ancestors : List ℕ) (number place : ℕ) → AreAncestors history index ancestors
    → slice_get ancestors number ≡ Some place → place < length history
ancestor_within history index [] number place are at = absurd (nothing_at number place at)
ancestor_within history index (issuer ∷ ancestors) zero place are at =
    subst (λ (i : ℕ). i < length history) (same_some issuer place at) (here_within history issuer ancestors (are.0.1, are.1))
ancestor_within history index (issuer ∷ ancestors) (suc number) place are at = ancestor_within history issuer ancestors number place (are.0.1, are.1) at

module _ (history : History) (last : IssuingStep) where
  abbrev Longer : History
  Longer = history ++ last ∷ []

  pub old_step : (index : ℕ) (step : IssuingStep) → index < length history → HasStep Longer index step → HasStep history index step
  old_step index step within has = by (old_or_new history last index step has)
    where
      by : IsOldOrNew history last index step → HasStep history index step
      by (inl old) = old
      by (inr (at, same)) = absurd (omega (arith, at, within))

  old_issuer : (index issuer : ℕ) → index < length history → HasIssuer Longer index issuer → HasIssuer history index issuer
  old_issuer index issuer within has = record { step = has.step; is = old_step index has.step within has.is; issued = has.issued }

  old_root : (index : ℕ) → index < length history → IsRootStep Longer index → IsRootStep history index
  old_root index within root = record { step = root.step; is = old_step index root.step within root.is; unissued = root.unissued }

  pub old_ancestors : IsOrdered Longer → (index : ℕ) (ancestors : List ℕ) → index < length history → AreAncestors Longer index ancestors
      → AreAncestors history index ancestors
  old_ancestors ordered index [] within are = (tt, old_root index within are.1)
  old_ancestors ordered index (issuer ∷ ancestors) within are =
      let earlier = ordered index issuer are.0.0 in
      let above = old_ancestors ordered issuer ancestors (omega (arith, earlier, within)) (are.0.1, are.1) in
      ((old_issuer index issuer within are.0.0, above.0), above.1)
