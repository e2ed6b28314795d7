-- Elements of lists.
use Rattle.std.proofs.Common.{◌≡◌, ◌⊎◌, List, [], ◌∷◌, inl, inr, arith}
use Rattle.std.specs.Prelude.{Contains}
use Rattle.std.proofs.lemmas.List.Elements.{Contains-append_cases, Contains-append_left, Contains-append_right, Contains-push, Contains-push_cases}

pub none_there : {X : Type 0} (y : X) → Contains [] y → ⊥
none_there y h = omega (arith, h.1)

pub first_there : {X : Type 0} (x : X) (xs : List X) → Contains (x ∷ xs) x
first_there x xs = Contains-append_left (x ∷ []) xs x (Contains-push [] x)

pub later_there : {X : Type 0} (x : X) (xs : List X) (y : X) → Contains xs y → Contains (x ∷ xs) y
later_there x xs y h = Contains-append_right (x ∷ []) xs y h

only_there : {X : Type 0} (x y : X) → Contains (x ∷ []) y → x ≡ y
only_there x y h = elim (Contains-push_cases [] x y h) [
  | inl none ↦ absurd (none_there y none)
  | inr same ↦ same
]

pub first_or_later : {X : Type 0} (x : X) (xs : List X) (y : X) → Contains (x ∷ xs) y → (x ≡ y) ⊎ Contains xs y
first_or_later x xs y h = elim (Contains-append_cases (x ∷ []) xs y h) [
  | inl one ↦ inl (only_there x y one)
  | inr more ↦ inr more
]
