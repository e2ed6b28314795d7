-- Borrowed octets of elements that are traversed, with the octets after each enclosing element.
use Rattle.std.proofs.Common.{◌≡◌, ◌≢◌, ℕ, ◌+◌, ◌-◌, ◌<◌, ◌≤◌, List, [], ◌∷◌, ◌++◌, length, take}
use Rattle.std.proofs.Common.{drop, set, get_or, refl, sym, ap, subst, ◌∙◌, append_assoc, arith}
use Rattle.std.proofs.lemmas.List.{length-append, length-set, take_at, drop_at, get_or-set_same, get_or-set_other}
use Rattle.der_core.specs.DerElement.{Primitive, Constructed}
use Rattle.der_core.specs.Encoding.{length_octets, form_bit}
use Rattle.der_core.specs.Head.{HasHead}
use Rattle.der_core.specs.Reading.{HasElementsWithin}
use Rattle.der_core.proofs.Elements.{at_level, leaf_read, branch_read}
use Rattle.der_core.proofs.Faults.{head_lengths}
use Rattle.der_core.proofs.InOctets.{no_length, one_more_first, no_elements}

-- the octets after the innermost element, then those after the one that holds it, and so on
abbrev pub joined : List (List ℕ) → List ℕ
joined [] = []
joined (after ∷ others) = after ++ joined others

-- The first n numbers are the lengths of these octets, that of the innermost last.
abbrev pub AreLengths : List ℕ → ℕ → List (List ℕ) → Type 0
AreLengths lengths n [] = n ≡ 0
AreLengths lengths n (after ∷ others) = (0 < n) × (get_or lengths (n - 1) 0 ≡ length after) × AreLengths lengths (n - 1) others

-- All of them are elements, the innermost with so many levels, and each next with one more.
abbrev pub AreOutward : ℕ → List (List ℕ) → Type 0
AreOutward levels [] = Unit {0}
AreOutward levels (after ∷ others) = HasElementsWithin levels after × AreOutward (levels + 1) others

-- Within n elements are the current octets, of which so many are left. If they are elements, and so
-- are those after each of the n, all octets are.
pub record GoesOn (octets rest : List ℕ) (left : ℕ) (lengths : List ℕ) (n : ℕ) : Type 0 where
  pub current : List ℕ
  pub outer : List (List ℕ)
  pub parts : rest ≡ current ++ joined outer
  pub many : length current ≡ left
  pub kept : AreLengths lengths n outer
  pub few : n ≤ 62
  pub room : length lengths ≡ 62
  pub elements : HasElementsWithin (63 - n) current → AreOutward (64 - n) outer → HasElementsWithin 63 octets

-- ---- nothing is left

no_more : (octets current lengths : List ℕ) (outer : List (List ℕ)) → length current ≡ 0 → AreLengths lengths 0 outer
    → (HasElementsWithin 63 current → AreOutward 64 outer → HasElementsWithin 63 octets) → HasElementsWithin 63 octets
no_more octets current lengths [] none kept elements = elements (no_elements 63 current (no_length current none)) tt
no_more octets current lengths (after ∷ others) none kept elements = absurd (omega (arith, kept.0))

pub ended : {octets rest lengths : List ℕ} {left n : ℕ} → GoesOn octets rest left lengths n → left ≡ 0 → n ≡ 0 → HasElementsWithin 63 octets
ended {octets} {rest} {lengths} {left} {n} on none outermost =
    let g = subst (λ (m : ℕ). GoesOn octets rest left lengths m) outermost on in
    no_more octets g.current lengths g.outer (g.many ∙ none) g.kept g.elements

outward : (octets rest current lengths : List ℕ) (n : ℕ) (outer : List (List ℕ)) → rest ≡ current ++ joined outer → length current ≡ 0
    → AreLengths lengths n outer → 0 < n → n ≤ 62 → length lengths ≡ 62
    → (HasElementsWithin (63 - n) current → AreOutward (64 - n) outer → HasElementsWithin 63 octets)
    → GoesOn octets rest (get_or lengths (n - 1) 0) lengths (n - 1)
outward octets rest current lengths n [] parts none kept some few room elements = absurd (omega (arith, kept, some))
outward octets rest current lengths n (after ∷ others) parts none kept some few room elements =
    let empty : current ≡ [] = no_length current none in
    let same : 63 - (n - 1) ≡ 64 - n = omega arith in
    let more : 64 - (n - 1) ≡ 64 - n + 1 = omega arith in
    record {
      current = after;
      outer = others;
      parts = parts ∙ ap (λ (o : List ℕ). o ++ (after ++ joined others)) empty;
      many = sym kept.1;
      kept = kept.2;
      few = omega arith;
      room = room;
      elements = λ has are. elements (no_elements (63 - n) current empty)
          (subst (λ (l : ℕ). HasElementsWithin l after) same has, subst (λ (l : ℕ). AreOutward l others) more are);
    }

pub after_last : {octets rest lengths : List ℕ} {left n : ℕ} → GoesOn octets rest left lengths n → left ≡ 0 → 0 < n
    → GoesOn octets rest (get_or lengths (n - 1) 0) lengths (n - 1)
after_last {octets} {rest} {lengths} {left} {n} on none some =
    outward octets rest on.current lengths n on.outer on.parts (on.many ∙ none) on.kept some on.few on.room on.elements

-- ---- one more element

-- as many octets as are left
pub current_is : {octets rest lengths : List ℕ} {left n : ℕ} (on : GoesOn octets rest left lengths n) → take left rest ≡ on.current
current_is {left = left} on = ap (take left) on.parts ∙ take_at on.current (joined on.outer) left on.many

pub enough : {octets rest lengths : List ℕ} {left n : ℕ} → GoesOn octets rest left lengths n → left ≤ length rest
enough on = omega (arith, ap length on.parts, length-append on.current (joined on.outer), on.many)

-- from the contents of the first element on
pub from_contents : {octets rest lengths : List ℕ} {left n tag : ℕ} {contents others : List ℕ} (on : GoesOn octets rest left lengths n)
    → HasHead 64 on.current tag contents others → drop (left - (length contents + length others)) rest ≡ contents ++ (others ++ joined on.outer)
from_contents {rest = rest} {left = left} {tag = tag} {contents = contents} {others = others} on head =
    let before : List ℕ = tag ∷ length_octets (length contents) in
    let beyond : List ℕ = joined on.outer in
    let whole : on.current ≡ (before ++ contents) ++ others = head.parts in
    let regrouped : ((before ++ contents) ++ others) ++ beyond ≡ before ++ (contents ++ (others ++ beyond)) =
    append_assoc (before ++ contents) others beyond ∙ append_assoc before contents (others ++ beyond) in
    let parts : rest ≡ before ++ (contents ++ (others ++ beyond)) = on.parts ∙ ap (λ (o : List ℕ). o ++ beyond) whole ∙ regrouped in
    let many : length before ≡ left - (length contents + length others) =
    omega (arith, on.many, ap length whole, length-append (before ++ contents) others, length-append before contents) in
    ap (drop (left - (length contents + length others))) parts ∙ drop_at before (contents ++ (others ++ beyond)) _ many

-- the octets from there on
pub contents_and_others : {octets rest lengths : List ℕ} {left n tag : ℕ} {contents others : List ℕ} (on : GoesOn octets rest left lengths n)
    → HasHead 64 on.current tag contents others
    → (length (drop (left - (length contents + length others)) rest) < length rest)
    × (length contents ≤ length (drop (left - (length contents + length others)) rest))
contents_and_others {rest = rest} {left = left} {contents = contents} {others = others} on head =
    let beyond : List ℕ = joined on.outer in
    let from : length (drop (left - (length contents + length others)) rest) ≡ length contents + (length others + length beyond) =
    omega (arith, ap length (from_contents on head), length-append contents (others ++ beyond), length-append others beyond) in
    let whole : length rest ≡ length on.current + length beyond = omega (arith, ap length on.parts, length-append on.current beyond) in
    (omega (arith, from, whole, head_lengths head), omega (arith, from))

pub after_leaf : {octets rest lengths : List ℕ} {left n tag : ℕ} {contents others : List ℕ} (on : GoesOn octets rest left lengths n)
    → HasHead 64 on.current tag contents others → (form_bit tag ≡ 1 → ⊥)
    → GoesOn octets (drop (length contents) (drop (left - (length contents + length others)) rest)) (length others) lengths n
after_leaf {rest = rest} {left = left} {n = n} {tag = tag} {contents = contents} {others = others} on head bit =
    let read = leaf_read (at_level (63 - n) (omega (arith, on.few)) head) bit in
    record {
      current = others;
      outer = on.outer;
      parts = ap (drop (length contents)) (from_contents on head) ∙ drop_at contents (others ++ joined on.outer) (length contents) refl;
      many = refl;
      kept = on.kept;
      few = on.few;
      room = on.room;
      elements = λ has are. on.elements (one_more_first (63 - n) on.current others (Primitive tag contents) read.0 read.1 has) are;
    }

lengths_stay : (lengths : List ℕ) (n m many : ℕ) (outer : List (List ℕ)) → m ≤ n → AreLengths lengths m outer → AreLengths (set lengths n many) m outer
lengths_stay lengths n m many [] below kept = kept
lengths_stay lengths n m many (after ∷ others) below kept =
    let some : 0 < m = kept.0 in
    let other : m - 1 ≢ n = λ e. omega arith in
    (some, get_or-set_other lengths n (m - 1) many 0 other ∙ kept.1, lengths_stay lengths n (m - 1) many others (omega arith) kept.2)

one_length_more : (lengths : List ℕ) (n : ℕ) (after : List ℕ) (outer : List (List ℕ)) → n < length lengths → AreLengths lengths n outer
    → AreLengths (set lengths n (length after)) (n + 1) (after ∷ outer)
one_length_more lengths n after outer there kept =
    let same : n + 1 - 1 ≡ n = omega arith in (
      omega arith,
      ap (λ (i : ℕ). get_or (set lengths n (length after)) i 0) same ∙ get_or-set_same lengths n (length after) 0 there,
      subst (λ (m : ℕ). AreLengths (set lengths n (length after)) m outer) (sym same) (lengths_stay lengths n n (length after) outer (omega arith) kept),
    )

pub into_branch : {octets rest lengths : List ℕ} {left n tag : ℕ} {contents others : List ℕ} (on : GoesOn octets rest left lengths n)
    → HasHead 64 on.current tag contents others → form_bit tag ≡ 1 → n < 62
    → GoesOn octets (drop (left - (length contents + length others)) rest) (length contents) (set lengths n (length others)) (n + 1)
into_branch {lengths = lengths} {n = n} {tag = tag} {contents = contents} {others = others} on head bit few =
    let kids_levels : 63 - (n + 1) ≡ 63 - n - 1 = omega arith in
    let others_levels : 64 - (n + 1) ≡ 63 - n = omega arith in
    let outer_levels : 64 - (n + 1) + 1 ≡ 64 - n = omega arith in
    record {
      current = contents;
      outer = others ∷ on.outer;
      parts = from_contents on head;
      many = refl;
      kept = one_length_more lengths n others on.outer (omega (arith, on.room)) on.kept;
      few = omega arith;
      room = length-set lengths n (length others) ∙ on.room;
      elements = λ has are.
          let kids = subst (λ (l : ℕ). HasElementsWithin l contents) kids_levels has in
          let read = branch_read kids.0 (at_level (63 - n) (omega (arith, on.few)) head) bit kids.1 kids.2 in
          on.elements (one_more_first (63 - n) on.current others (Constructed tag kids.0) read.0 read.1
          (subst (λ (l : ℕ). HasElementsWithin l others) others_levels are.0)) (subst (λ (l : ℕ). AreOutward l on.outer) outer_levels are.1);
    }
