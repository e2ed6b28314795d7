-- Whether an element is written for some value can be decided if that of its parts can.
use Rattle.std.proofs.Common.{◌≡◌, ℕ, List, [], ◌∷◌, map, refl, ap, ◌∙◌, arith, inl, inr, ◌⊎◌}
use Rattle.std.proofs.lemmas.Bool.{cases_eq}
use Rattle.der_core.specs.DerElement.{DerElement, Primitive, Constructed, DerElements, Nil, Cons, row, tag_of}
use Rattle.der_core.specs.Encoding.{IsDer}
use Rattle.der_core.specs.Reading.{AreDerWithin}

-- what is written for some value, or for none
abbrev pub IsSomeOrNone : {E X : Type 0} → (X → E) → E → Type 0
IsSomeOrNone {E} {X} written element = ((value : X) × (element ≡ written value)) ⊎ ((value : X) → element ≡ written value → ⊥)

-- the same for values in another form
pub in_form : {E X Y : Type 0} (f : X → E) (g : Y → E) (to : X → Y) (from : Y → X) (element : E)
    → ((x : X) → f x ≡ g (to x)) → ((y : Y) → g y ≡ f (from y)) → IsSomeOrNone f element → IsSomeOrNone g element
in_form f g to from element there back (inl fit) = inl (to fit.0, fit.1 ∙ there fit.0)
in_form f g to from element there back (inr none) = inr (λ y e. none (from y) (e ∙ back y))

kids_der : (tag : ℕ) (kids : DerElements) → IsDer (Constructed tag kids) → AreDerWithin 64 kids
kids_der tag kids der = record { formed = der.formed.2; nested = omega (arith, der.nested); short = der.short.1 }

first_der : (kid : DerElement) (kids : DerElements) → AreDerWithin 64 (Cons kid kids) → IsDer kid
first_der kid kids der = record { formed = der.formed.0; nested = omega (arith, der.nested); short = der.short.0 }

others_der : (kid : DerElement) (kids : DerElements) → AreDerWithin 64 (Cons kid kids) → AreDerWithin 64 kids
others_der kid kids der = record { formed = der.formed.1; nested = omega (arith, der.nested); short = der.short.1 }

-- ---- a leaf and a branch of a tag

content_is : (s t : ℕ) (x y : List ℕ) → Primitive s x ≡ Primitive t y → x ≡ y
content_is s t x y e = cc

pub leaf_or_not : {X : Type 0} (tag : ℕ) (contents : X → List ℕ) → ((octets : List ℕ) → IsSomeOrNone contents octets)
    → (element : DerElement) → IsSomeOrNone (λ (v : X). Primitive tag (contents v)) element
leaf_or_not tag contents each (Constructed t kids) = inr (λ v e. absurd cc)
leaf_or_not tag contents each (Primitive t octets) =
    elim (cases_eq t tag) [
      | inr other ↦ inr (λ v e. other (ap tag_of e))
      | inl same ↦ elim (each octets) [
        | inr none ↦ inr (λ v e. none v (content_is t tag octets (contents v) e))
        | inl fit ↦ inl (fit.0, ap (λ s. Primitive s octets) same ∙ ap (Primitive tag) fit.1)
      ]
    ]

kids_are : (s t : ℕ) (x y : DerElements) → Constructed s x ≡ Constructed t y → x ≡ y
kids_are s t x y e = cc

pub branch_or_not : {X : Type 0} (tag : ℕ) (inside : X → DerElements)
    → ((kids : DerElements) → AreDerWithin 64 kids → IsSomeOrNone inside kids) → (element : DerElement) → IsDer element
    → IsSomeOrNone (λ (v : X). Constructed tag (inside v)) element
branch_or_not tag inside each (Primitive t octets) der = inr (λ v e. absurd cc)
branch_or_not tag inside each (Constructed t kids) der =
    elim (cases_eq t tag) [
      | inr other ↦ inr (λ v e. other (ap tag_of e))
      | inl same ↦ elim (each kids (kids_der t kids der)) [
        | inr none ↦ inr (λ v e. none v (kids_are t tag kids (inside v) e))
        | inl fit ↦ inl (fit.0, ap (λ s. Constructed s kids) same ∙ ap (Constructed tag) fit.1)
      ]
    ]

-- ---- the kids of a branch

kid_is : (x y : DerElement) (xs ys : DerElements) → Cons x xs ≡ Cons y ys → x ≡ y
kid_is x y xs ys e = cc

others_are : (x y : DerElement) (xs ys : DerElements) → Cons x xs ≡ Cons y ys → xs ≡ ys
others_are x y xs ys e = cc

-- one after another
pub two_or_not : {X Y : Type 0} (first : X → DerElement) (others : Y → DerElements)
    → ((element : DerElement) → IsDer element → IsSomeOrNone first element)
    → ((kids : DerElements) → AreDerWithin 64 kids → IsSomeOrNone others kids) → (kids : DerElements)
    → AreDerWithin 64 kids → IsSomeOrNone (λ (p : X × Y). Cons (first p.0) (others p.1)) kids
two_or_not first others one more Nil der = inr (λ p e. absurd cc)
two_or_not first others one more (Cons kid kids) der =
    elim (one kid (first_der kid kids der)) [
      | inr none ↦ inr (λ p e. none p.0 (kid_is kid (first p.0) kids (others p.1) e))
      | inl fit ↦ elim (more kids (others_der kid kids der)) [
        | inr none ↦ inr (λ p e. none p.1 (others_are kid (first p.0) kids (others p.1) e))
        | inl fits ↦ inl ((fit.0, fits.0), ap (λ k. Cons k kids) fit.1 ∙ ap (Cons (first fit.0)) fits.1)
      ]
    ]

pub only_or_not : {X : Type 0} (written : X → DerElement)
    → ((element : DerElement) → IsDer element → IsSomeOrNone written element) → (kids : DerElements)
    → AreDerWithin 64 kids → IsSomeOrNone (λ (v : X). Cons (written v) Nil) kids
only_or_not written one Nil der = inr (λ v e. absurd cc)
only_or_not written one (Cons kid (Cons next kids)) der = inr (λ v e. absurd cc)
only_or_not written one (Cons kid Nil) der =
    elim (one kid (first_der kid Nil der)) [
      | inr none ↦ inr (λ v e. none v (kid_is kid (written v) Nil Nil e))
      | inl fit ↦ inl (fit.0, ap (λ k. Cons k Nil) fit.1)
    ]

no_first_value : {X : Type 0} (written : X → DerElement) (kid : DerElement) (kids : DerElements)
    → ((v : X) → kid ≡ written v → ⊥) → (values : List X) → Cons kid kids ≡ row (map written values) → ⊥
no_first_value written kid kids none [] e = absurd cc
no_first_value written kid kids none (v ∷ values) e = none v (kid_is kid (written v) kids (row (map written values)) e)

no_other_values : {X : Type 0} (written : X → DerElement) (kid : DerElement) (kids : DerElements)
    → ((values : List X) → kids ≡ row (map written values) → ⊥) → (values : List X)
    → Cons kid kids ≡ row (map written values) → ⊥
no_other_values written kid kids none [] e = absurd cc
no_other_values written kid kids none (v ∷ values) e = none values (others_are kid (written v) kids (row (map written values)) e)

pub each_or_not : {X : Type 0} (written : X → DerElement)
    → ((element : DerElement) → IsDer element → IsSomeOrNone written element) → (kids : DerElements)
    → AreDerWithin 64 kids → IsSomeOrNone (λ (values : List X). row (map written values)) kids
each_or_not written one Nil der = inl ([], refl)
each_or_not written one (Cons kid kids) der =
    elim (one kid (first_der kid kids der)) [
      | inr none ↦ inr (no_first_value written kid kids none)
      | inl fit ↦ elim (each_or_not written one kids (others_der kid kids der)) [
        | inr none ↦ inr (no_other_values written kid kids none)
        | inl fits ↦ inl (fit.0 ∷ fits.0, ap (λ k. Cons k kids) fit.1 ∙ ap (Cons (written fit.0)) fits.1)
      ]
    ]
