-- An iterator that lends the items of a list yields them.
use Rattle.std.proofs.Common.{◌≡◌, List, [], ◌∷◌, refl, sym, ◌∙◌}
use Rattle.std.specs.Borrow.{Bor}
use Rattle.std.specs.Iterator.{AlwaysYields, YieldsFirstRef}

module _ {A : Type 0} where
  no_item : (x : A) (xs : List A) → [] ≡ x ∷ xs → ⊥
  no_item x xs e = absurd cc

  same_first : (x y : A) (xs ys : List A) → x ∷ xs ≡ y ∷ ys → y ≡ x
  same_first x y xs ys e = cc

  same_rest : (x y : A) (xs ys : List A) → x ∷ xs ≡ y ∷ ys → xs ≡ ys
  same_rest x y xs ys e = cc

module _ {S A : Type 0} (rest : S → List A) where
  yields_at : (items : List A) (s : S) → items ≡ rest s → AlwaysYields (YieldsFirstRef rest) (λ (x : Bor A). x.now) s items
  yields_at [] s e = λ x j p. no_item x.now (rest j) (e ∙ p)
  yields_at (y ∷ items) s e = (
    λ j p. no_item y items (sym (e ∙ p.0)),
    λ x j p. (same_first y x.now items (rest j) (e ∙ p), yields_at items j (same_rest y x.now items (rest j) (e ∙ p))),
  )

  pub yields_rest : (s : S) → AlwaysYields (YieldsFirstRef rest) (λ (x : Bor A). x.now) s (rest s)
  yields_rest s = yields_at (rest s) s refl
