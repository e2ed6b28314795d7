-- What is numbered along a list, item by item.
use Rattle.std.proofs.Common.{◌≡◌, ℕ, zero, suc, ◌+◌, List, [], ◌∷◌, ◌++◌, length, Some, None, refl, sym, ap, subst, arith}
use Rattle.std.specs.List.{slice_get}
use Rattle.std.specs.Prelude.{⊤}
use Rattle.x509_core.specs.Chain.{last_of}
use Rattle.x509_core.proofs.Validity.{same_some}

nothing_within : {K : Type 0} (before after : List K) (parent : K) → [] ≡ before ++ parent ∷ after → ⊥
nothing_within [] after parent e = absurd cc
nothing_within (b ∷ before) after parent e = absurd cc

none_is_some : {A : Type 0} (x : A) → None ≡ Some x → ⊥
none_is_some x e = absurd cc

-- ---- links between neighbours

module _ {K : Type 0} (Link : ℕ → K → K → Type 0) where
  abbrev pub LinkedFrom : ℕ → K → List K → Type 0
  LinkedFrom number child parents = (before after : List K) (parent : K) → parents ≡ before ++ parent ∷ after
      → Link (number + length before) parent (last_of child before)

  -- the same by recursion
  abbrev pub LinkRow : ℕ → K → List K → Type 0
  LinkRow number child [] = ⊤
  LinkRow number child (parent ∷ parents) = Link number parent child × LinkRow (number + 1) parent parents

  rest_linked : (number : ℕ) (child parent : K) (parents : List K) → LinkedFrom number child (parent ∷ parents) → LinkedFrom (number + 1) parent parents
  rest_linked number child parent parents linked before after next e =
      let shift : number + length (parent ∷ before) ≡ number + 1 + length before = omega arith in
      subst (λ (n : ℕ). Link n next (last_of parent before)) shift (linked (parent ∷ before) after next (ap (λ (zs : List K). parent ∷ zs) e))

  pub link_row : (number : ℕ) (child : K) (parents : List K) → LinkedFrom number child parents → LinkRow number child parents
  link_row number child [] linked = tt
  link_row number child (parent ∷ parents) linked =
      let shift : number + length {A = K} [] ≡ number = omega arith in (
        subst (λ (n : ℕ). Link n parent child) shift (linked [] parents parent refl),
        link_row (number + 1) parent parents (rest_linked number child parent parents linked),
      )

  pub row_linked : (number : ℕ) (child : K) (parents : List K) → LinkRow number child parents → LinkedFrom number child parents
  row_linked number child [] row before after next e = absurd (nothing_within before after next e)
  row_linked number child (parent ∷ parents) row [] after next e =
      let same : parent ≡ next = cc in
      let shift : number ≡ number + length {A = K} [] = omega arith in
      subst (λ (n : ℕ). Link n next child) shift (subst (λ (k : K). Link number k child) same row.0)
  row_linked number child (parent ∷ parents) row (b ∷ before) after next e =
      let same : parent ≡ b = cc in
      let rest : parents ≡ before ++ next ∷ after = cc in
      let shift : number + 1 + length before ≡ number + length (b ∷ before) = omega arith in
      subst (λ (n : ℕ). Link n next (last_of b before)) shift
      (subst (λ (k : K). Link (number + 1 + length before) next (last_of k before)) same (row_linked (number + 1) parent parents row.1 before after next rest))

  from_zero : (n : ℕ) → 0 + n ≡ n
  from_zero n = omega arith

  pub link_row_of : (child : K) (parents : List K) → ((before after : List K) (parent : K) → parents ≡ before ++ parent ∷ after
      → Link (length before) parent (last_of child before)) → LinkRow 0 child parents
  link_row_of child parents linked = link_row 0 child parents
      (λ before after parent e. subst (λ (n : ℕ). Link n parent (last_of child before)) (sym (from_zero (length before))) (linked before after parent e))

  pub linked_of_row : (child : K) (parents : List K) → LinkRow 0 child parents → (before after : List K) (parent : K) → parents ≡ before ++ parent ∷ after
      → Link (length before) parent (last_of child before)
  linked_of_row child parents row before after parent e =
      subst (λ (n : ℕ). Link n parent (last_of child before)) (from_zero (length before)) (row_linked 0 child parents row before after parent e)

-- ---- items

module _ {K : Type 0} (Holds : ℕ → K → Type 0) where
  -- each item holds, numbered from a number on
  abbrev pub HoldFrom : ℕ → List K → Type 0
  HoldFrom number items = (at : ℕ) (item : K) → slice_get items at ≡ Some item → Holds (number + at) item

  -- the same by recursion
  abbrev pub HoldRow : ℕ → List K → Type 0
  HoldRow number [] = ⊤
  HoldRow number (item ∷ items) = Holds number item × HoldRow (number + 1) items

  pub hold_row : (number : ℕ) (items : List K) → HoldFrom number items → HoldRow number items
  hold_row number [] holds = tt
  hold_row number (item ∷ items) holds =
      let shift : number + 0 ≡ number = omega arith in (
        subst (λ (n : ℕ). Holds n item) shift (holds 0 item refl),
        hold_row (number + 1) items (λ at other is.
            let shift : number + suc at ≡ number + 1 + at = omega arith in
            subst (λ (n : ℕ). Holds n other) shift (holds (suc at) other is)),
      )

  pub row_holds : (number : ℕ) (items : List K) → HoldRow number items → HoldFrom number items
  row_holds number [] row at item is = absurd (none_is_some item is)
  row_holds number (first ∷ items) row zero item is =
      let shift : number ≡ number + 0 = omega arith in
      subst (λ (n : ℕ). Holds n item) shift (subst (λ (k : K). Holds number k) (same_some first item is) row.0)
  row_holds number (first ∷ items) row (suc at) item is =
      let shift : number + 1 + at ≡ number + suc at = omega arith in
      subst (λ (n : ℕ). Holds n item) shift (row_holds (number + 1) items row.1 at item is)

  pub hold_row_of : (items : List K) → ((at : ℕ) (item : K) → slice_get items at ≡ Some item → Holds at item) → HoldRow 0 items
  hold_row_of items holds = hold_row 0 items (λ at item is.
      let zero_more : at ≡ 0 + at = omega arith in
      subst (λ (n : ℕ). Holds n item) zero_more (holds at item is))

  pub holds_of_row : (items : List K) → HoldRow 0 items → (at : ℕ) (item : K) → slice_get items at ≡ Some item → Holds at item
  holds_of_row items row at item is =
      let zero_more : 0 + at ≡ at = omega arith in
      subst (λ (n : ℕ). Holds n item) zero_more (row_holds 0 items row at item is)
