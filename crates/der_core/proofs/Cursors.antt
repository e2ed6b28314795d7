-- The steps of a cursor.
use Rattle.std.proofs.Common.{◌≡◌, ℕ, ◌<◌, ◌≤◌, List, ◌∷◌, ◌++◌, length, take, sym, ap, ◌∙◌, arith}
use Rattle.std.proofs.lemmas.List.{length-append, take_at, length-take}
use Rattle.der_core.specs.DerElement.{DerElement, DerElements, Nil, Cons, row, listed}
use Rattle.der_core.specs.Facts.Rows.{row-listed}
use Rattle.der_core.specs.Encoding.{encoding, encodings, nesting, IsDer}
use Rattle.der_core.specs.Facts.Fronts.{some_octets, fronts, same_kids}
use Rattle.der_core.specs.Borrowed.{AreDer, IsElem, AreElems, HasElems}
use Rattle.der_core.specs.Facts.Borrowed.{all_formed, all_short}
use Rattle.der_core.specs.Reading.{AreDerWithin, HasElementsWithin, IsFirst}
use Rattle.der_core.specs.Cursor.{BeginsAt, WereTested}

pub first_length : (octets : List ℕ) (a : DerElement) (n : ℕ) → IsFirst octets a n → n ≤ length octets
first_length octets a n first = omega (arith, ap length first.front, length-take n octets, first.many)

pub none_first : (octets : List ℕ) (a : DerElement) (n : ℕ) → length octets ≡ 0 → IsFirst octets a n → ⊥
none_first octets a n none first = omega (arith, first_length octets a n first, first.many, some_octets a)

each_der : (elements : DerElements) → AreDerWithin 63 elements → AreDer (listed elements)
each_der Nil der = tt
each_der (Cons kid kids) der = (
  record { formed = der.formed.0; nested = omega (arith, der.nested); short = der.short.0 },
  each_der kids (record { formed = der.formed.1; nested = omega (arith, der.nested); short = der.short.1 }),
)

-- octets that were tested are elements
pub tested_elements : (level : ℕ) (octets : List ℕ) → WereTested level octets → 1 < level → HasElems octets
tested_elements level octets tested inner =
    let t = tested inner in
    (listed t.0, (each_der t.0 t.1, t.2 ∙ ap encodings (sym (row-listed t.0))))

deep_first : (elements : DerElements) (element : DerElement) (others : DerElements) → AreDerWithin 63 elements → elements ≡ Cons element others
    → nesting element ≤ 63
deep_first Nil element others der are = absurd cc
deep_first (Cons kid kids) element others der are = let same : kid ≡ element = cc in omega (arith, der.nested, ap nesting same)

-- the first of the elements that octets encode is what they begin with
pub begins_there : (level : ℕ) (octets whole : List ℕ) (tag : ℕ) (content : List ℕ) (elements : List DerElement) (element : DerElement)
    (others : List DerElement) → AreElems octets elements → IsElem whole tag content element
    → 1 < level → level ≤ 2 → WereTested level octets → elements ≡ element ∷ others → BeginsAt level octets element (length whole)
begins_there level octets whole tag content elements element others k e inner low tested are =
    let t = tested inner in
    let same : row elements ≡ t.0 = same_kids (row elements) t.0 (all_formed elements k.0) t.1.formed (all_short elements k.0) t.1.short (sym k.1 ∙ t.2) in
    let deep = deep_first t.0 element (row others) t.1 (sym same ∙ ap row are) in
    let parts : octets ≡ encoding element ++ encodings (row others) = k.1 ∙ ap (λ es. encodings (row es)) are in
    record {
      first = record {
        der = e.0;
        many = ap length e.1;
        front = ap (take (length whole)) parts ∙ take_at (encoding element) (encodings (row others)) (length whole) (sym (ap length e.1));
      };
      nested = omega (arith, deep);
    }

after_first : (elements : DerElements) (element : DerElement) (octets rest : List ℕ) → AreDerWithin 63 elements → octets ≡ encodings elements → IsDer element
    → octets ≡ encoding element ++ rest → HasElementsWithin 63 rest
after_first Nil element octets rest are spelled der parts =
    absurd (omega (arith, some_octets element, length-append (encoding element) rest, ap length parts, ap length spelled))
after_first (Cons kid kids) element octets rest are spelled der parts =
    let f = fronts kid element (encodings kids) rest are.formed.0 der.formed are.short.0 der.short (sym spelled ∙ parts) in
    (kids, record { formed = are.formed.1; nested = omega (arith, are.nested); short = are.short.1 }, sym f.1)

-- tested octets are still tested after their first element
pub tested_after : (level : ℕ) (octets rest : List ℕ) (element : DerElement) → WereTested level octets → IsDer element → octets ≡ encoding element ++ rest
    → WereTested level rest
tested_after level octets rest element tested der parts = λ inner. let t = tested inner in after_first t.0 element octets rest t.1 t.2 der parts
