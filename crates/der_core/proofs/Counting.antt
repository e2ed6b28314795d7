-- Counts grow by one number at a time, and there is one.
use Rattle.std.proofs.Common.{◌≡◌, ◌↔◌, ◌<◌, ◌≤◌, Bool, true, false, IsTrue, ℕ, zero, suc, ◌+◌, inl, inr, refl, sym, ap, subst, ◌∙◌, arith}
use Rattle.der_core.specs.Counting.{IsCount}

module _ (P : ℕ → Type 0) where
  count_within : (below number : ℕ) → IsCount P below number → number ≤ below
  count_within zero number count = omega (arith, count)
  count_within (suc below) number (inl (has, (others, is, count))) = omega (arith, is, count_within below others count)
  count_within (suc below) number (inr (none, count)) = omega (arith, count_within below number count)

  counted : (below number : ℕ) (test : Bool) (more : ℕ) → IsCount P below number → (IsTrue test ↔ P below)
      → (test ≡ true → more ≡ number + 1) → (test ≡ false → more ≡ number) → IsCount P (suc below) more
  counted below number true more count decides on off = inl (decides.0 refl, (number, on refl, count))
  counted below number false more count decides on off =
      inr ((λ has. absurd (not_true (decides.1 has))), subst (IsCount P below) (sym (off refl)) count)
    where
      not_true : IsTrue false → ⊥
      not_true e = absurd cc

  pub count_more : (below number : ℕ) (test : Bool) (more : ℕ) → IsCount P below number → (IsTrue test ↔ P below)
      → (test ≡ true → more ≡ number + 1) → (test ≡ false → more ≡ number) → IsCount P (below + 1) more
  count_more below number test more count decides on off =
      let next : suc below ≡ below + 1 = omega arith in
      subst (λ (n : ℕ). IsCount P n more) next (counted below number test more count decides on off)

  pub count_low : (below number limit : ℕ) → IsCount P below number → below < limit → number < limit
  count_low below number limit count low = omega (arith, count_within below number count, low)

  pub count_once : (below a b : ℕ) → IsCount P below a → IsCount P below b → a ≡ b
  count_once zero a b x y = x ∙ sym y
  count_once (suc below) a b (inl (has, (others, is, count))) (inl (again, (more, same, counts))) =
      is ∙ ap (λ (n : ℕ). n + 1) (count_once below others more count counts) ∙ sym same
  count_once (suc below) a b (inl (has, (others, is, count))) (inr (none, counts)) = absurd (none has)
  count_once (suc below) a b (inr (none, count)) (inl (has, counts)) = absurd (none has)
  count_once (suc below) a b (inr (none, count)) (inr (never, counts)) = count_once below a b count counts
