-- Chains that grow by one certificate, and what an iterator yields.
use Rattle.std.proofs.Common.{◌≡◌, ◌⊎◌, ℕ, ◌+◌, List, [], ◌∷◌, ◌++◌, map, length, Option, None, inl, inr, refl, sym, ap, subst, ◌∙◌, arith}
use Rattle.std.specs.Iterator.{AlwaysYields, Yields, Drains}
use Rattle.x509_core.specs.Chain.{last_of}

module _ {K : Type 0} where
  empty_is_not : (before after : List K) (parent : K) → [] ≡ before ++ parent ∷ after → ⊥
  empty_is_not [] after parent e = absurd cc
  empty_is_not (b ∷ before) after parent e = absurd cc

  pub assoc : (a b c : List K) → (a ++ b) ++ c ≡ a ++ (b ++ c)
  assoc [] b c = refl
  assoc (x ∷ a) b c = ap (λ (zs : List K). x ∷ zs) (assoc a b c)

  -- an index in a list with one more member is the last one, or one in the list
  abbrev pub IsPlace : (xs before : List K) (x parent : K) → Type 0
  IsPlace xs before x parent = ((xs ≡ before) × (x ≡ parent)) ⊎ ((rest : List K) × (xs ≡ before ++ parent ∷ rest))

  further : (y b : K) (xs before : List K) (x parent : K) → y ≡ b → IsPlace xs before x parent → IsPlace (y ∷ xs) (b ∷ before) x parent
  further y b xs before x parent same (inl (p, q)) = inl (ap (λ (zs : List K). y ∷ zs) p ∙ ap (λ (z : K). z ∷ before) same, q)
  further y b xs before x parent same (inr (rest, p)) = inr (rest, ap (λ (zs : List K). y ∷ zs) p ∙ ap (λ (z : K). z ∷ (before ++ parent ∷ rest)) same)

  pub place : (xs before after : List K) (x parent : K) → xs ++ x ∷ [] ≡ before ++ parent ∷ after → IsPlace xs before x parent
  place [] [] after x parent e = inl (refl, cc)
  place [] (b ∷ before) after x parent e =
      let none : [] ≡ before ++ parent ∷ after = cc in
      absurd (empty_is_not before after parent none)
  place (y ∷ xs) [] after x parent e =
      let same : y ≡ parent = cc in
      inr (xs, ap (λ (z : K). z ∷ xs) same)
  place (y ∷ xs) (b ∷ before) after x parent e =
      let same : y ≡ b = cc in
      let rest : xs ++ x ∷ [] ≡ before ++ parent ∷ after = cc in
      further y b xs before x parent same (place xs before after x parent rest)

  pub last_more : (checked : K) (xs : List K) (x : K) → last_of checked (xs ++ x ∷ []) ≡ x
  last_more checked [] x = refl
  last_more checked (y ∷ xs) x = last_more y xs x

module _ {K : Type 0} (Link : ℕ → K → K → Type 0) (checked : K) where
  abbrev pub Linked : List K → Type 0
  Linked parents = (before after : List K) (parent : K) → parents ≡ before ++ parent ∷ after → Link (length before) parent (last_of checked before)

  pub linked_none : Linked []
  linked_none before after parent e = absurd (empty_is_not before after parent e)

  pub linked_more : (xs : List K) (x : K) → Linked xs → Link (length xs) x (last_of checked xs) → Linked (xs ++ x ∷ [])
  linked_more xs x linked link before after parent e = by (place xs before after x parent e)
    where
      by : IsPlace xs before x parent → Link (length before) parent (last_of checked before)
      by (inl (p, q)) = subst (λ (b : List K). Link (length b) parent (last_of checked b)) p (subst (λ (y : K). Link (length xs) y (last_of checked xs)) q link)
      by (inr (rest, p)) = linked before rest parent p

  pub linked_front : (xs ys : List K) → Linked (xs ++ ys) → Linked xs
  linked_front xs ys linked before after parent e = linked before (after ++ ys) parent (ap (λ (zs : List K). zs ++ ys) e ∙ assoc before (parent ∷ after) ys)

pub map_more : {A B : Type 0} (f : A → B) (xs : List A) (x : A) → map f (xs ++ x ∷ []) ≡ map f xs ++ f x ∷ []
map_more f [] x = refl
map_more {B = B} f (y ∷ xs) x = ap (λ (zs : List B). f y ∷ zs) (map_more f xs x)

pub one_more : {A : Type 0} (xs : List A) (x : A) → length (xs ++ x ∷ []) ≡ length xs + 1
one_more [] x = refl
one_more (y ∷ xs) x = omega (arith, one_more xs x)

module _ {S A B : Type 0} (steps : S → Option A → S → Type 0) (v : A → B) where
  abbrev pub HasRest : S → List A → List B → Type 0
  HasRest t xs given = (rest : List B) × (given ≡ map v xs ++ rest) × AlwaysYields steps v t rest

  joined : (x : A) (b : B) (xs : List A) (given : List B) (t : S) → v x ≡ b → HasRest t xs given → HasRest t (x ∷ xs) (b ∷ given)
  joined x b xs given t same h = (h.0, ap (λ (z : B). z ∷ given) (sym same) ∙ ap (λ (zs : List B). v x ∷ zs) h.1, h.2)

  -- what was yielded is a prefix of the given list
  pub gives_front : (s t : S) (xs : List A) (given : List B) → AlwaysYields steps v s given → Yields steps s xs t → HasRest t xs given
  gives_front s t [] given a y = (given, refl, subst (λ (k : S). AlwaysYields steps v k given) y a)
  gives_front s t (x ∷ xs) [] a y = absurd (a x y.0 y.1)
  gives_front s t (x ∷ xs) (b ∷ given) a y =
      let h = a.1 x y.0 y.1 in
      joined x b xs given t h.0 (gives_front y.0 t xs given h.1 y.2)

  ended : (t u : S) (rest : List B) → AlwaysYields steps v t rest → steps t None u → rest ≡ []
  ended t u [] a n = refl
  ended t u (b ∷ rest) a n = absurd (a.0 u n)

  nothing_more : (xs : List B) → xs ++ [] ≡ xs
  nothing_more [] = refl
  nothing_more (x ∷ xs) = ap (λ (zs : List B). x ∷ zs) (nothing_more xs)

  -- what was yielded until the end is the whole given list
  pub gives_all : (s : S) (xs : List A) (given : List B) → AlwaysYields steps v s given → Drains steps s xs → given ≡ map v xs
  gives_all s xs given a d =
      let f = gives_front s d.1.0 xs given a d.1.1 in
      f.1 ∙ ap (λ (zs : List B). map v xs ++ zs) (ended d.1.0 d.0 f.0 f.2 d.1.2) ∙ nothing_more (map v xs)
