-- Borrowed elements: their kids, and the first of several.
use Rattle.std.proofs.Common.{◌≡◌, ℕ, ◌-◌, List, [], ◌∷◌, ◌++◌, length, take, Some, None, Ok, refl, sym, ap, subst, ◌∙◌, arith}
use Rattle.std.proofs.lemmas.List.{append-nil, length-append, take_at}
use Rattle.der_core.specs.DerElement.{DerElement, Primitive, Constructed, Nil, Cons, row, listed, tag_of, kids_of}
use Rattle.der_core.specs.Facts.Rows.{row-listed}
use Rattle.der_core.specs.Encoding.{encoding, encodings, form_bit, IsDer, IsDerWithin}
use Rattle.der_core.specs.Facts.Fronts.{ok_is, some_octets}
use Rattle.der_core.specs.Reading.{HasElementsWithin, IsFirst}
use Rattle.der_core.specs.Head.{head_at, BeginsWithHead}
use Rattle.der_core.specs.Borrowed.{contents_octets, IsElem, HasElem, AreElems, HasElems}
use Rattle.der_core.specs.Facts.Borrowed.{HasElem-prop, HasElems-prop, same_elements, kids_in_bounds}
use Rattle.der_core.specs.Owned.{IsKept, Kept}
use Rattle.der_core.proofs.Heads.{head_again}

-- ---- the kids of an element

kids_there' : (whole : List ℕ) (tag : ℕ) (content : List ℕ) (a : DerElement) → IsElem whole tag content a → form_bit tag ≡ 1 → HasElems content
kids_there' whole tag content (Primitive t octets) is bit = absurd (omega (arith, is.0.formed.1, ap form_bit is.2))
kids_there' whole tag content (Constructed t kids) is bit = (listed kids, (kids_in_bounds t kids is.0, is.3 ∙ ap encodings (sym (row-listed kids))))

pub kids_there : (whole : List ℕ) (tag : ℕ) (content : List ℕ) → HasElem whole tag content → form_bit tag ≡ 1 → HasElems content
kids_there whole tag content h bit = kids_there' whole tag content h.0 h.1 bit

pub kids_are : (whole : List ℕ) (tag : ℕ) (content : List ℕ) (a : DerElement) (kids : List DerElement) → IsElem whole tag content a → form_bit tag ≡ 1
    → AreElems content kids → kids_of a ≡ Some kids
kids_are whole tag content (Primitive t octets) ks is bit k = absurd (omega (arith, is.0.formed.1, ap form_bit is.2))
kids_are whole tag content (Constructed t kids) ks is bit k =
    ap Some (same_elements (listed kids) ks (kids_in_bounds t kids is.0) k.0 (ap encodings (row-listed kids) ∙ sym is.3 ∙ k.1))

no_kids' : (whole : List ℕ) (tag : ℕ) (content : List ℕ) (a : DerElement) → IsElem whole tag content a → (form_bit tag ≡ 1 → ⊥) → kids_of a ≡ None
no_kids' whole tag content (Primitive t octets) is bit = refl
no_kids' whole tag content (Constructed t kids) is bit = absurd (bit (ap form_bit is.2 ∙ is.0.formed.1))

pub no_kids_there : (whole : List ℕ) (tag : ℕ) (content : List ℕ) (h : HasElem whole tag content) → (form_bit tag ≡ 1 → ⊥) → kids_of h.0 ≡ None
no_kids_there whole tag content h bit = no_kids' whole tag content h.0 h.1 bit

-- ---- several elements

no_octets : (elements : List DerElement) → encodings (row elements) ≡ [] → elements ≡ []
no_octets [] e = refl
no_octets (a ∷ elements) e = absurd (omega (arith, some_octets a, length-append (encoding a) (encodings (row elements)), ap length e))

pub none_left : (octets : List ℕ) (k : HasElems octets) → octets ≡ [] → k.0 ≡ []
none_left octets k e = no_octets k.0 (sym k.1.1 ∙ e)

pub some_left : (octets : List ℕ) (k : HasElems octets) → k.0 ≡ [] → octets ≡ []
some_left octets k e = k.1.1 ∙ ap (λ elements. encodings (row elements)) e

-- if there are elements, the octets begin with the head of one
head_left' : (octets : List ℕ) (elements : List DerElement) → AreElems octets elements → (elements ≡ [] → ⊥) → BeginsWithHead octets
head_left' octets [] are some = absurd (some refl)
head_left' octets (a ∷ elements) are some =
    let rest = encodings (row elements) in
    (tag_of a, contents_octets a, rest, ap (head_at 64) are.1 ∙ head_again 64 a rest are.0.0)

pub head_left : (octets : List ℕ) (k : HasElems octets) → (k.0 ≡ [] → ⊥) → BeginsWithHead octets
head_left octets k some = head_left' octets k.0 k.1 some

no_head_of_none : (tag : ℕ) (contents after : List ℕ) → head_at 64 [] ≡ Ok (tag, contents, after) → ⊥
unfolding head_at
no_head_of_none tag contents after e = absurd cc

-- the first element, and those after it
pub record IsNext (octets : List ℕ) (elements : List DerElement) (n tag : ℕ) (contents after : List ℕ) : Type 0 where
  pub element : DerElement
  pub others : List DerElement
  pub are : elements ≡ element ∷ others
  pub is : IsElem (take n octets) tag contents element
  pub left : AreElems after others

first_of' : (octets : List ℕ) (elements : List DerElement) (tag : ℕ) (contents after : List ℕ) → AreElems octets elements
    → head_at 64 octets ≡ Ok (tag, contents, after)
    → IsNext octets elements (length octets - length after) tag contents after
first_of' octets [] tag contents after are head =
    let none : octets ≡ [] = are.1 in
    absurd (no_head_of_none tag contents after (ap (head_at 64) (sym none) ∙ head))
first_of' octets (a ∷ elements) tag contents after are head =
    let rest = encodings (row elements) in
    let found : ℕ × List ℕ × List ℕ = (tag, contents, after) in
    let again : ℕ × List ℕ × List ℕ = (tag_of a, contents_octets a, rest) in
    let same : found ≡ again = ok_is found again (sym head ∙ ap (head_at 64) are.1 ∙ head_again 64 a rest are.0.0) in
    let same_after : after ≡ rest = ap (λ (p : ℕ × List ℕ × List ℕ). p.2) same in
    let many : length (encoding a) ≡ length octets - length after = omega (arith, ap length are.1, length-append (encoding a) rest, ap length same_after) in
    record {
      element = a;
      others = elements;
      are = refl;
      is = (
        are.0.0,
        ap (take (length octets - length after)) are.1 ∙ take_at (encoding a) rest (length octets - length after) many,
        ap (λ (p : ℕ × List ℕ × List ℕ). p.0) same,
        ap (λ (p : ℕ × List ℕ × List ℕ). p.1) same,
      );
      left = (are.0.1, same_after);
    }

pub first_there : (octets : List ℕ) (k : HasElems octets) (tag : ℕ) (contents after : List ℕ) → head_at 64 octets ≡ Ok (tag, contents, after)
    → IsNext octets k.0 (length octets - length after) tag contents after
first_there octets k tag contents after head = first_of' octets k.0 tag contents after k.1 head

-- the elements are the first and those after it, whatever the proof
pub next_are : (octets : List ℕ) (k : HasElems octets) (tag : ℕ) (contents after whole : List ℕ) (element : DerElement) (others : List DerElement)
    → head_at 64 octets ≡ Ok (tag, contents, after)
    → whole ≡ take (length octets - length after) octets → IsElem whole tag contents element → AreElems after others → k.0 ≡ element ∷ others
next_are octets k tag contents after whole element others head front e l =
    let n = first_there octets k tag contents after head in
    let here : HasElem whole tag contents = (n.element, subst (λ w. IsElem w tag contents n.element) (sym front) n.is) in
    let then : HasElems after = (n.others, n.left) in
    n.are ∙ ap (λ (h : HasElem whole tag contents). h.0 ∷ n.others) (HasElem-prop whole tag contents here (element, e))
    ∙ ap (λ (h : HasElems after). element ∷ h.0) (HasElems-prop after then (others, l))

-- octets of length 0 are empty
pub no_length : (octets : List ℕ) → length octets ≡ 0 → octets ≡ []
no_length [] e = refl
no_length (o ∷ octets) e = absurd (omega (arith, e))

-- ---- tests of octets

pub one_more_first : (levels : ℕ) (octets after : List ℕ) (a : DerElement) → IsDerWithin levels a → octets ≡ encoding a ++ after
    → HasElementsWithin levels after → HasElementsWithin levels octets
one_more_first levels octets after a der parts has = (
  Cons a has.0,
  record { formed = (der.formed, has.1.formed); nested = omega (arith, der.nested, has.1.nested); short = (der.short, has.1.short) },
  parts ∙ ap (λ (o : List ℕ). encoding a ++ o) has.2,
)

pub no_elements : (levels : ℕ) (octets : List ℕ) → octets ≡ [] → HasElementsWithin levels octets
no_elements levels octets none = (Nil, record { formed = tt; nested = omega arith; short = tt }, none)

-- ---- the first element of octets that were tested

-- the one element in a prefix of the octets is the first of them
pub first_elem : (octets rest front whole : List ℕ) (tag : ℕ) (content : List ℕ) (a : DerElement) (elements : List DerElement) (k : AreElems front elements)
    (element : DerElement) (e : IsElem whole tag content element) (others : List DerElement) → IsDer a → octets ≡ encoding a ++ rest
    → front ≡ take (length octets - length rest) octets → elements ≡ element ∷ others → IsFirst octets element (length whole)
first_elem octets rest front whole tag content a elements k element e others der parts is are =
    let many : length (encoding a) ≡ length octets - length rest = omega (arith, ap length parts, length-append (encoding a) rest) in
    let here : front ≡ encoding a = is ∙ ap (take (length octets - length rest)) parts ∙ take_at (encoding a) rest (length octets - length rest) many in
    let one : elements ≡ a ∷ [] = same_elements elements (a ∷ []) k.0 (der, tt) (sym k.1 ∙ here ∙ sym (append-nil (encoding a))) in
    let same : element ≡ a = cc in
    let whole_is : whole ≡ encoding a = e.1 ∙ ap encoding same in
    record {
      der = e.0;
      many = ap length e.1;
      front = ap (λ n. take n octets) (ap length whole_is) ∙ ap (take (length (encoding a))) parts ∙ take_at (encoding a) rest (length (encoding a)) refl
          ∙ sym (ap encoding same);
    }

-- a prefix of the octets that is the encoding of an element holds that element
pub one_alone : (octets rest front : List ℕ) (a : DerElement) → IsDer a → octets ≡ encoding a ++ rest → front ≡ take (length octets - length rest) octets
    → HasElems front
one_alone octets rest front a der parts is =
    let many : length (encoding a) ≡ length octets - length rest = omega (arith, ap length parts, length-append (encoding a) rest) in (
      a ∷ [],
      (
        (der, tt),
        is ∙ ap (take (length octets - length rest)) parts ∙ take_at (encoding a) rest (length octets - length rest) many ∙ sym (append-nil (encoding a)),
      ),
    )

pub not_none : (octets rest front : List ℕ) (a : DerElement) (elements : List DerElement) (k : AreElems front elements) → octets ≡ encoding a ++ rest
    → front ≡ take (length octets - length rest) octets → elements ≡ [] → ⊥
not_none octets rest front a elements k parts is none =
    let many : length (encoding a) ≡ length octets - length rest = omega (arith, ap length parts, length-append (encoding a) rest) in
    let here : front ≡ encoding a = is ∙ ap (take (length octets - length rest)) parts ∙ take_at (encoding a) rest (length octets - length rest) many in
    omega (arith, some_octets a, ap length here, ap length (some_left front (elements, k) none))

-- ---- owned octets

pub one_kept : (octets lent : List ℕ) → Kept octets → lent ≡ octets → HasElems lent
one_kept octets lent kept same = (kept.0 ∷ [], ((kept.1.0, tt), same ∙ kept.1.1 ∙ sym (append-nil (encoding kept.0))))

pub kept_first : (octets lent : List ℕ) (element : DerElement) (elements : List DerElement) (e : DerElement) (others : List DerElement) → IsKept octets element
    → lent ≡ octets → AreElems lent elements → elements ≡ e ∷ others → e ≡ element
kept_first octets lent element elements e others kept same are parts =
    let one : elements ≡ element ∷ [] =
    same_elements elements (element ∷ []) are.0 (kept.0, tt) (sym are.1 ∙ same ∙ kept.1 ∙ sym (append-nil (encoding element))) in
    cc

pub kept_not_none : (octets lent : List ℕ) (element : DerElement) (elements : List DerElement) → IsKept octets element → lent ≡ octets → AreElems lent elements
    → elements ≡ [] → ⊥
kept_not_none octets lent element elements kept same are none =
    omega (arith, some_octets element, ap length kept.1, ap length same, ap length (some_left lent (elements, are) none))
