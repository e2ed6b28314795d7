-- A kid among its siblings.
use Rattle.std.proofs.Common.{◌≡◌, ◌≢◌, ◌+◌, Option, Some, None, MatchOption, sym, ◌∙◌, ap, ℕ, ◌<◌, ◌≤◌, List, [], ◌∷◌, length, get_or, zero, suc, arith}
use Rattle.der_core.specs.DerElement.{DerElement, DerElements, Primitive, Constructed, row, listed, tag_of, kids_of, element_count, elements_count}
use Rattle.der_core.specs.Facts.Rows.{row-listed}
use Rattle.der_core.specs.Encoding.{IsShort, AreShort}
use Rattle.der_core.proofs.Parts.{without_kids}

pub count-kid : (kids : List DerElement) (i : ℕ) (d : DerElement) → i < length kids → element_count (get_or kids i d) ≤ elements_count (row kids)
count-kid [] i d h = absurd (omega arith)
count-kid (kid ∷ kids) zero d h = omega arith
count-kid (kid ∷ kids) (suc i) d h = omega (arith, count-kid kids i d (omega arith))

pub IsShort-kid : (kids : List DerElement) (i : ℕ) (d : DerElement) → i < length kids → AreShort (row kids) → IsShort (get_or kids i d)
IsShort-kid [] i d h short = absurd (omega arith)
IsShort-kid (kid ∷ kids) zero d h short = short.0
IsShort-kid (kid ∷ kids) (suc i) d h short = IsShort-kid kids i d (omega arith) short.1

pub kid_first : (all : List DerElement) (kid : DerElement) (rest : List DerElement) → all ≡ kid ∷ rest
    → elements_count (row all) ≡ element_count kid + elements_count (row rest)
kid_first all kid rest e = ap (λ k. elements_count (row k)) e

-- an element with kids is constructed
pub with_kids : (t : DerElement) (tag : ℕ) (kids : List DerElement) → tag ≡ tag_of t → kids_of t ≡ Some kids → t ≡ Constructed tag (row kids)
with_kids (Primitive t content) tag kids same e = absurd cc
with_kids (Constructed t ks) tag kids same e =
    let these : listed ks ≡ kids = cc in
    ap (λ s. Constructed s ks) (sym same) ∙ ap (Constructed tag) (sym (row-listed ks) ∙ ap row these)

-- an element of the tag by its kids, if it has any
pub of_tag : {X : Type 0} (found : Option X) (kids : X → List DerElement) (t : DerElement) (tag : ℕ) → tag ≡ tag_of t
    → MatchOption found (kids_of t ≡ None) (λ x. kids_of t ≡ Some (kids x))
    → MatchOption found ((ks : DerElements) → t ≢ Constructed tag ks) (λ x. t ≡ Constructed tag (row (kids x)))
of_tag None kids t tag same none = without_kids t none tag
of_tag (Some x) kids t tag same some = with_kids t tag (kids x) same some

pub count_around : (t : DerElement) (tag : ℕ) (kids : List DerElement) → tag ≡ tag_of t → kids_of t ≡ Some kids
    → element_count t ≡ elements_count (row kids) + 1
count_around t tag kids same e = ap element_count (with_kids t tag kids same e)
