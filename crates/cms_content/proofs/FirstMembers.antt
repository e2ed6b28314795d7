-- The first member of a list of which a rule holds: how it is found, and that there is one.
use Rattle.std.proofs.Common.{◌≡◌, ◌↔◌, ℕ, suc, ◌<◌, ◌≤◌, ◌⊎◌, List, Some, length, true, false, IsTrue, refl, sym, subst, ◌∙◌, inl, inr, arith}
use Rattle.std.specs.Prelude.{slice_get}
use Rattle.std.proofs.lemmas.Bool.{cases_lt, false≢true}
use Rattle.std.proofs.lemmas.Option.{slice_get_within}
use Rattle.cms_content.specs.First.{HoldsOfNone, HoldsOfNoneBefore, HoldsOfSome, IsFirst}

module _ {X : Type 0} (holds : X → Type 0) (xs : List X) where
  same_member : (p q : ℕ) (x y : X) → p ≡ q → slice_get xs p ≡ Some x → slice_get xs q ≡ Some y → y ≡ x
  same_member p q x y e a b =
      let there : slice_get xs p ≡ Some y = subst (λ (n : ℕ). slice_get xs n ≡ Some y) (sym e) b in
      let some : Some y ≡ Some x = sym there ∙ a in
      cc

  one_more : (index : ℕ) (x : X) → HoldsOfNoneBefore holds xs index → slice_get xs index ≡ Some x → (holds x → ⊥)
      → (other : ℕ) (y : X) → other < suc index → slice_get xs other ≡ Some y → holds y → (other < index) ⊎ (index ≤ other) → ⊥
  one_more index x none stands fails other y before at fits (inl less) = none other y less at fits
  one_more index x none stands fails other y before at fits (inr more) =
      let there : index ≡ other = omega (arith, before, more) in
      fails (subst holds (same_member index other x y there stands at) fits)

  pub none_yet : (index next : ℕ) (x : X) → next ≡ suc index → HoldsOfNoneBefore holds xs index → slice_get xs index ≡ Some x → (holds x → ⊥)
      → HoldsOfNoneBefore holds xs next
  none_yet index next x e none stands fails other y before at fits =
      one_more index x none stands fails other y (omega (arith, before, e)) at fits (cases_lt other index)

  pub none_at_all : (index : ℕ) → HoldsOfNoneBefore holds xs index → length xs ≤ index → HoldsOfNone holds xs
  none_at_all index none ended other y at fits = none other y (omega (arith, slice_get_within xs other y at, ended)) at fits

  pub first_at : (index : ℕ) (x : X) → HoldsOfNoneBefore holds xs index → slice_get xs index ≡ Some x → holds x → IsFirst holds xs x
  first_at index x none stands fits = record { index = index; stands = stands; fits = fits; least = none }

  -- ---- tests

  pub yes_at : (index : ℕ) (x : X) → slice_get xs index ≡ Some x → holds x → IsTrue true ↔ HoldsOfSome holds xs
  yes_at index x stands fits = (λ on. (index, x, stands, fits), λ some. refl)

  pub not_at_all : (index : ℕ) → HoldsOfNoneBefore holds xs index → length xs ≤ index → IsTrue false ↔ HoldsOfSome holds xs
  not_at_all index none ended = (λ on. absurd (false≢true on), λ some. absurd (none_at_all index none ended some.0 some.1 some.2 some.3))

  -- ---- there is one first

  pub first_or_none : (x : X) → IsFirst holds xs x → HoldsOfNone holds xs → ⊥
  first_or_none x first none = none first.index x first.stands first.fits

  same_index : (x y : X) (p : IsFirst holds xs x) (q : IsFirst holds xs y) → (p.index < q.index) ⊎ (q.index ≤ p.index)
      → (q.index < p.index) ⊎ (p.index ≤ q.index) → x ≡ y
  same_index x y p q (inl less) other = absurd (q.least p.index x less p.stands p.fits)
  same_index x y p q (inr more) (inl less) = absurd (p.least q.index y less q.stands q.fits)
  same_index x y p q (inr more) (inr less) = same_member q.index p.index y x (omega (arith, more, less)) q.stands p.stands

  pub first_once : (x y : X) → IsFirst holds xs x → IsFirst holds xs y → x ≡ y
  first_once x y p q = same_index x y p q (cases_lt p.index q.index) (cases_lt q.index p.index)
