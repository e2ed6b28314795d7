-- At most one call fails: what follows of the next ones.
use Rattle.std.proofs.Common.{◌≡◌, ℕ, Result, Err, inl, inr, subst, arith}
use Rattle.der_core.specs.Counts.{FailsOnce}

-- an error is one
pub one_error : {A E : Type 0} (d e : E) → ◌≡◌ {A = Result A E} (Err d) (Err e) → d ≡ e
one_error d e same = cc

-- what isn't reported didn't fail
pub stands : {HasFailed : Type 0} {before now : ℕ} → FailsOnce HasFailed before now → (HasFailed → ⊥) → now ≡ before
stands f none = elim f.reported [
  | inl failed ↦ absurd (none failed)
  | inr same ↦ same
]

-- if none failed so far
pub none_failed : {HasFailed : Type 0} {before now : ℕ} → now ≡ before → FailsOnce HasFailed before now
none_failed same = record { once = omega (arith, same); reported = inr same }

-- if none failed before
pub failed_then : {HasFailed : Type 0} {before between now : ℕ} → between ≡ before → FailsOnce HasFailed between now → FailsOnce HasFailed before now
failed_then {HasFailed} {now = now} same f = subst (λ (n : ℕ). FailsOnce HasFailed n now) same f

-- what is reported is reported in another way
pub failed_as : {HasFailed Other : Type 0} {before now : ℕ} → (HasFailed → Other) → FailsOnce HasFailed before now → FailsOnce Other before now
failed_as means f = record {
  once = f.once;
  reported = elim f.reported [
    | inl failed ↦ inl (means failed)
    | inr same ↦ inr same
  ];
}
