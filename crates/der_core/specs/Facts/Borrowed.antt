-- That octets encode one element, or one list of elements, has at most one proof.
use Rattle.std.specs.Prelude.{◌≡◌, ℕ, List, [], ◌∷◌, ◌++◌}
use Rattle.std.specs.Coded.{×_prop, Unit-prop}
use Rattle.std.proofs.Common.{sym, ap, ◌∙◌, arith, length-append}
use mathlib.Core.HLevel.{Σ_prop_path}
use Rattle.der_core.specs.DerElement.{DerElement, DerElements, Nil, Cons, Constructed, row, listed}
use Rattle.der_core.specs.Facts.Rows.{listed-row}
use Rattle.der_core.specs.Encoding.{encoding, encodings, IsDer, AreWellFormed, AreShort, most_levels}
use Rattle.der_core.specs.Borrowed.{AreDer, IsElem, HasElem, AreElems, HasElems}
use Rattle.der_core.specs.Facts.Fronts.{fronts, same_kids}
use Rattle.der_core.specs.Facts.InBounds.{numbers-set, octets-set, IsDerWithin-prop}

pub AreDer-prop : (kids : List DerElement) → IsProp (AreDer kids)
AreDer-prop [] = Unit-prop
AreDer-prop (kid ∷ kids) = ×_prop (IsDerWithin-prop most_levels kid) (AreDer-prop kids)

IsElem-prop : (whole : List ℕ) (tag : ℕ) (content : List ℕ) (element : DerElement) → IsProp (IsElem whole tag content element)
IsElem-prop whole tag content element = hlevel (IsDerWithin-prop most_levels element, octets-set, numbers-set)

pub HasElem-prop : (whole : List ℕ) (tag : ℕ) (content : List ℕ) → IsProp (HasElem whole tag content)
HasElem-prop whole tag content a b =
    Σ_prop_path (IsElem-prop whole tag content)
    (fronts a.0 b.0 [] [] a.1.0.formed b.1.0.formed a.1.0.short b.1.0.short (ap (λ o. o ++ []) (sym a.1.1 ∙ b.1.1))).0

pub all_formed : (kids : List DerElement) → AreDer kids → AreWellFormed (row kids)
all_formed [] der = tt
all_formed (kid ∷ kids) der = (der.0.formed, all_formed kids der.1)

pub all_short : (kids : List DerElement) → AreDer kids → AreShort (row kids)
all_short [] der = tt
all_short (kid ∷ kids) der = (der.0.short, all_short kids der.1)

pub same_elements : (a b : List DerElement) → AreDer a → AreDer b → encodings (row a) ≡ encodings (row b) → a ≡ b
same_elements a b der der' e =
    sym (listed-row a) ∙ ap listed (same_kids (row a) (row b) (all_formed a der) (all_formed b der') (all_short a der) (all_short b der') e) ∙ listed-row b

AreElems-prop : (octets : List ℕ) (elements : List DerElement) → IsProp (AreElems octets elements)
AreElems-prop octets elements = ×_prop (AreDer-prop elements) (octets-set octets (encodings (row elements)))

pub HasElems-prop : (octets : List ℕ) → IsProp (HasElems octets)
HasElems-prop octets a b = Σ_prop_path (AreElems-prop octets) (same_elements a.0 b.0 a.1.0 b.1.0 (sym a.1.1 ∙ b.1.1))

-- the elements in one within limits are within limits
pub kids_in_bounds : (tag : ℕ) (kids : DerElements) → IsDer (Constructed tag kids) → AreDer (listed kids)
kids_in_bounds tag Nil der = tt
kids_in_bounds tag (Cons kid kids) der =
    let here : IsDer kid = record { formed = der.formed.2.0; nested = omega arith; short = der.short.1.0 } in
    let after : IsDer (Constructed tag kids) = record {
      formed = (der.formed.0, der.formed.1, der.formed.2.1);
      nested = omega arith;
      short = (omega (arith, length-append (encoding kid) (encodings kids)), der.short.1.1);
    } in
    (here, kids_in_bounds tag kids after)
