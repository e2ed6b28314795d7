-- The first fault of octets, seen from the elements around it.
use Rattle.std.proofs.Common.{◌≡◌, ℕ, zero, suc, ◌+◌, ◌-◌, ◌<◌, ◌≤◌, List, [], ◌∷◌, ◌++◌, length, Result}
use Rattle.std.proofs.Common.{Ok, Err, refl, sym, ap, subst, ◌∙◌, arith, zero-add, add-zero, add_assoc}
use Rattle.std.proofs.lemmas.List.{length-append}
use Rattle.der_core.specs.declared.fault.DerFault.{DerFault}
use Rattle.der_core.specs.DerElement.{DerElement}
use Rattle.der_core.specs.declared.fault.Malformed.{Malformed}
use Rattle.der_core.specs.Encoding.{length_octets, framed, encoding, form_bit, IsDerWithin}
use Rattle.der_core.specs.Fault.{header_length, IsStart, Outermost, Within, After, IsFirstFault}
use Rattle.der_core.specs.Facts.InnerFault.{ElementFault, KidsFault, Here, Inside, First, Next}
use Rattle.der_core.specs.Facts.Fronts.{ok_is, some_octets, fronts}
use Rattle.der_core.specs.Head.{head_at, HasHead}
use Rattle.der_core.specs.Reading.{HasElementsWithin, IsFaultFrom}
use Rattle.der_core.proofs.Begins.{HasElement}
use Rattle.der_core.proofs.Elements.{no_head, no_kids, no_first, rest_goes_on}

-- ---- no element if there is a fault

one_less : (levels : ℕ) (octets : List ℕ) → HasElementsWithin (suc levels - 1) octets → HasElementsWithin levels octets
one_less levels octets has =
    let same : suc levels - 1 ≡ levels = omega arith in
    subst (λ (l : ℕ). HasElementsWithin l octets) same has

mutual
  pub no_element : {levels n : ℕ} {octets : List ℕ} {fault : DerFault} → ElementFault levels octets n fault → HasElement levels octets → ⊥
  no_element {levels} {octets = octets} {fault = f} (Here e) has = no_head levels octets f e has
  no_element (Inside {levels = l} {tag = tag} {octets = octets} {contents = contents} {rest = rest} head bit kids n) has =
      no_kids (suc l) tag octets contents rest head bit (λ inner. no_elements kids (one_less l contents inner)) has

  pub no_elements : {levels n : ℕ} {octets : List ℕ} {fault : DerFault} → KidsFault levels octets n fault → HasElementsWithin levels octets → ⊥
  no_elements {levels} {octets = octets} (First some fault) has = no_first levels octets some (no_element fault) has
  no_elements {levels} {octets = octets} (Next {rest = rest} {element = a} der parts fault n) has =
      no_elements fault (rest_goes_on levels octets rest a der parts has)

-- ---- there is one fault

abbrev failed : {A : Type 0} → DerFault → Result A DerFault
failed fault = Err fault

err_is : {A : Type 0} (e f : DerFault) → failed {A = A} e ≡ failed {A = A} f → e ≡ f
err_is e f same = cc

same_contents : (levels s t : ℕ) (octets a x b y : List ℕ) → head_at levels octets ≡ Ok (s, a, x) → head_at levels octets ≡ Ok (t, b, y) → a ≡ b
same_contents levels s t octets a x b y e e' =
    let p : ℕ × List ℕ × List ℕ = (s, a, x) in
    let q : ℕ × List ℕ × List ℕ = (t, b, y) in
    ap (λ (r : ℕ × List ℕ × List ℕ). r.1) (ok_is p q (sym e ∙ e'))

mutual
  pub one_fault : (levels m n : ℕ) (octets : List ℕ) (e f : DerFault) → ElementFault levels octets m e → ElementFault levels octets n f → (m ≡ n) × (e ≡ f)
  one_fault levels m n octets e f (Here h) (Here h') = (refl, err_is e f (sym h ∙ h'))
  one_fault levels m n octets e f (Here h) (Inside head bit kids is-n) = absurd cc
  one_fault levels m n octets e f (Inside head bit kids is-n) (Here h) = absurd cc
  one_fault levels m n octets e f (Inside {levels = l} {tag = s} {k = j} {contents = a} {rest = x} head bit kids is-m)
      (Inside {tag = t} {k = k} {contents = b} {rest = y} head' bit' kids' is-n) =
      let same = same_contents (suc l) s t octets a x b y head head' in
      let both = one_kids_fault l j k b e f (subst (λ (o : List ℕ). KidsFault l o j e) same kids) kids' in
      (is-m ∙ ap (λ (o : List ℕ). header_length o + j) same ∙ ap (λ (i : ℕ). header_length b + i) both.0 ∙ sym is-n, both.1)

  pub one_kids_fault : (levels m n : ℕ) (octets : List ℕ) (e f : DerFault) → KidsFault levels octets m e → KidsFault levels octets n f → (m ≡ n) × (e ≡ f)
  one_kids_fault levels m n octets e f (First some fault) (First some' fault') = one_fault levels m n octets e f fault fault'
  one_kids_fault levels m n octets e f (First some fault) (Next {rest = rest} {element = t} der parts more is-n) =
      absurd (no_element fault (t, rest, der, parts))
  one_kids_fault levels m n octets e f (Next {rest = rest} {element = t} der parts more is-m) (First some fault) =
      absurd (no_element fault (t, rest, der, parts))
  one_kids_fault levels m n octets e f (Next {k = j} {rest = x} {element = a} der parts more is-m)
      (Next {k = k} {rest = y} {element = b} der' parts' more' is-n) =
      let same = fronts a b x y der.formed der'.formed der.short der'.short (sym parts ∙ parts') in
      let both = one_kids_fault levels j k y e f (subst (λ (o : List ℕ). KidsFault levels o j e) same.1 more) more' in
      (is-m ∙ ap (λ (t : DerElement). length (encoding t) + j) same.0 ∙ ap (λ (i : ℕ). length (encoding b) + i) both.0 ∙ sym is-n, both.1)

-- ---- a fault at a start is a fault of all the octets

some_head : (levels : ℕ) (octets : List ℕ) (x : ℕ × List ℕ × List ℕ) → head_at levels octets ≡ Ok x → 0 < length octets
unfolding head_at
some_head levels [] x e = absurd cc
some_head levels (octet ∷ octets) x e = omega arith

at_most : (all : List ℕ) (place levels : ℕ) (octets : List ℕ) → IsStart all place octets levels → levels ≤ 64
at_most all place levels octets Outermost = omega arith
at_most all place levels octets (Within {place = p} {octets = o} start head bit some) = omega (arith, at_most all p (suc levels) o start)
at_most all place levels octets (After {place = p} {octets = o} start inner der parts some) = omega (arith, inner)

-- The outermost element has the fault itself, and an inner one as the first of its siblings.
record StartFault (levels n : ℕ) (octets : List ℕ) (fault : DerFault) : Type 0 where
  outermost : levels ≡ 64 → ElementFault levels octets n fault
  inner : levels < 64 → KidsFault levels octets n fault

outwards : (all : List ℕ) (place levels n : ℕ) (octets : List ℕ) (fault : DerFault) → IsStart all place octets levels → StartFault levels n octets fault
    → ElementFault 64 all (place + n) fault
outwards all place levels n octets fault Outermost there = subst (λ (k : ℕ). ElementFault 64 all k fault) (sym (zero-add n)) (there.outermost refl)
outwards all place levels n octets fault (Within {place = p} {tag = tag} {octets = o} {rest = rest} start head bit some) there =
    let enough = at_most all p (suc levels) o start in
    let outer : ElementFault (suc levels) o (header_length octets + n) fault = Inside head bit (there.inner enough) refl in
    rw (add_assoc p (header_length octets) n) (outwards all p (suc levels) (header_length octets + n) o fault start (record {
      outermost = λ e. outer;
      inner = λ below. First (some_head (suc levels) o (tag, octets, rest) head) outer;
    }))
outwards all place levels n octets fault (After {place = p} {octets = o} {element = a} start inner der parts some) there =
    rw (add_assoc p (length (encoding a)) n) (outwards all p levels (length (encoding a) + n) o fault start
    (record { outermost = λ e. absurd (omega arith); inner = λ below. Next der parts (there.inner inner) refl }))

inner_some : (all : List ℕ) (place levels : ℕ) (octets : List ℕ) → IsStart all place octets levels → levels < 64 → 0 < length octets
inner_some all place levels octets Outermost below = absurd (omega arith)
inner_some all place levels octets (Within start head bit some) below = some
inner_some all place levels octets (After start inner der parts some) below = some

-- the first fault of octets as one of the outermost element
pub outermost_fault : (all : List ℕ) (place : ℕ) (fault : DerFault) → IsFirstFault all place fault → ElementFault 64 all place fault
outermost_fault all place fault first =
    let here : ElementFault first.levels first.octets 0 fault = Here first.fails in
    subst (λ (k : ℕ). ElementFault 64 all k fault) (add-zero place) (outwards all place first.levels 0 first.octets fault first.start (record {
      outermost = λ e. here;
      inner = λ below. First (inner_some all place first.levels first.octets first.start below) here;
    }))

-- ---- and the converse

some_kids : {levels n : ℕ} {octets : List ℕ} {fault : DerFault} → KidsFault levels octets n fault → 0 < length octets
some_kids (First some there) = some
some_kids {octets = octets} (Next {rest = rest} {element = a} der parts there is-n) =
    omega (arith, ap length parts, length-append (encoding a) rest, some_octets a)

mutual
  inwards : (all : List ℕ) (place levels n : ℕ) (octets : List ℕ) (fault : DerFault) → IsStart all place octets levels → ElementFault levels octets n fault
      → IsFirstFault all (place + n) fault
  inwards all place levels n octets fault start (Here e) = record {
    octets = octets;
    levels = levels;
    start = subst (λ (p : ℕ). IsStart all p octets levels) (sym (add-zero place)) start;
    fails = e;
  }
  inwards all place levels n octets fault start (Inside {levels = l} {k = k} {contents = contents} head bit kids is-n) =
      let found = inwards_kids all (place + header_length contents) l k contents fault (Within start head bit (some_kids kids))
      (at_most all place (suc l) octets start) kids in
      let same : (place + header_length contents) + k ≡ place + n = rw is-n (add_assoc place (header_length contents) k) in
      subst (λ (p : ℕ). IsFirstFault all p fault) same found

  inwards_kids : (all : List ℕ) (place levels n : ℕ) (octets : List ℕ) (fault : DerFault) → IsStart all place octets levels → levels < 64
      → KidsFault levels octets n fault → IsFirstFault all (place + n) fault
  inwards_kids all place levels n octets fault start inner (First some there) = inwards all place levels n octets fault start there
  inwards_kids all place levels n octets fault start inner (Next {k = k} {rest = rest} {element = a} der parts more is-n) =
      let found = inwards_kids all (place + length (encoding a)) levels k rest fault (After start inner der parts (some_kids more)) inner more in
      let same : (place + length (encoding a)) + k ≡ place + n = rw is-n (add_assoc place (length (encoding a)) k) in
      subst (λ (p : ℕ). IsFirstFault all p fault) same found

pub first_fault : (all : List ℕ) (place : ℕ) (fault : DerFault) → ElementFault 64 all place fault → IsFirstFault all place fault
first_fault all place fault there = subst (λ (p : ℕ). IsFirstFault all p fault) (zero-add place) (inwards all 0 64 place all fault Outermost there)

-- ---- the steps of a reader

-- a fault of kids is one of the element
pub fault_of_kids : (levels tag k : ℕ) (octets contents rest : List ℕ) (fault : DerFault) → head_at levels octets ≡ Ok (tag, contents, rest) → 0 < levels
    → form_bit tag ≡ 1 → KidsFault (levels - 1) contents k fault → ElementFault levels octets (header_length contents + k) fault
fault_of_kids zero tag k octets contents rest fault head some bit kids = absurd (omega arith)
fault_of_kids (suc l) tag k octets contents rest fault head some bit kids =
    let same : suc l - 1 ≡ l = omega arith in
    Inside head bit (subst (λ (m : ℕ). KidsFault m contents k fault) same kids) refl

pub fault_in : (at at' : ℕ) (P Q : ℕ → DerFault → Type 0) (m : Malformed) → ((k : ℕ) (fault : DerFault) → P k fault → (n : ℕ) × (at' + k ≡ at + n) × Q n fault)
    → IsFaultFrom at' P m → IsFaultFrom at Q m
fault_in at at' P Q m f h = let q = f h.0 m.fault h.2 in (q.0, h.1 ∙ q.1, q.2)

pub head_lengths : {levels tag : ℕ} {octets contents rest : List ℕ} → HasHead levels octets tag contents rest
    → length octets ≡ header_length contents + length contents + length rest
head_lengths {tag = tag} {contents = contents} {rest = rest} head =
    omega (arith, ap length head.parts, length-append (framed tag contents) rest, length-append (length_octets (length contents)) contents)

-- what the refusal of a head is
pub head_refused : (levels at : ℕ) (octets : List ℕ) (m : Malformed) → m.at ≡ at → head_at levels octets ≡ Err m.fault
    → IsFaultFrom at (ElementFault levels octets) m
head_refused levels at octets m same fails = (0, same ∙ sym (add-zero at), Here fails)

pub kids_refused : {levels tag : ℕ} {octets contents rest : List ℕ} (at : ℕ) (m : Malformed)
    → head_at levels octets ≡ Ok (tag, contents, rest) → HasHead levels octets tag contents rest → form_bit tag ≡ 1
    → IsFaultFrom (at + (length octets - length rest - length contents)) (KidsFault (levels - 1) contents) m → IsFaultFrom at (ElementFault levels octets) m
kids_refused {levels} {tag} {octets} {contents} {rest} at m found head bit refused =
    let lengths = head_lengths head in
    fault_in at (at + (length octets - length rest - length contents)) (KidsFault (levels - 1) contents) (ElementFault levels octets) m
    (λ k fault kids. (header_length contents + k, omega arith, fault_of_kids levels tag k octets contents rest fault found head.some bit kids)) refused

-- ---- the result of a reader of the first element

pub same_malformed : (m : Malformed) (at : ℕ) (fault : DerFault) → m.at ≡ at → m.fault ≡ fault → m ≡ record { at = at; fault = fault }
same_malformed m at fault p q =
    let first : m ≡ record { at = at; fault = m.fault } = ap (λ (a : ℕ). record { at = a; fault = m.fault }) p in
    first ∙ ap (λ (f : DerFault). record { at = at; fault = f }) q

pub refused_first : (at : ℕ) (octets : List ℕ) (m : Malformed) → IsFaultFrom at (ElementFault 64 octets) m → IsFaultFrom at (IsFirstFault octets) m
refused_first at octets m refused = (refused.0, refused.1, first_fault octets refused.0 m.fault refused.2)

-- a fault counted from the beginning is at its offset
pub from_beginning : (P : ℕ → DerFault → Type 0) (m : Malformed) → IsFaultFrom 0 P m → P m.at m.fault
from_beginning P m there = subst (λ (k : ℕ). P k m.fault) (sym (zero-add there.0) ∙ sym there.1) there.2

-- octets have one first fault
pub first_fault_once : (octets : List ℕ) (p q : ℕ) (e f : DerFault) → IsFirstFault octets p e → IsFirstFault octets q f → (p ≡ q) × (e ≡ f)
first_fault_once octets p q e f first second = one_fault 64 p q octets e f (outermost_fault octets p e first) (outermost_fault octets q f second)

-- so the one reported is it
pub refused_as : (octets : List ℕ) (at : ℕ) (fault : DerFault) (m : Malformed) → IsFirstFault octets at fault → IsFirstFault octets m.at m.fault
    → m ≡ record { at = at; fault = fault }
refused_as octets at fault m first refused =
    let same = first_fault_once octets m.at at m.fault fault refused first in
    same_malformed m at fault same.0 same.1

-- and so is one that is reported from an offset on
pub refused_from : (octets : List ℕ) (place k : ℕ) (fault : DerFault) (m : Malformed) → IsFirstFault octets k fault → IsFaultFrom place (IsFirstFault octets) m
    → m ≡ record { at = place + k; fault = fault }
refused_from octets place k fault m first refused =
    let same = first_fault_once octets refused.0 k m.fault fault refused.2 first in
    same_malformed m (place + k) fault (refused.1 ∙ ap (λ (i : ℕ). place + i) same.0) same.1

pub no_fault_where_read : (octets rest : List ℕ) (a : DerElement) (at : ℕ) (fault : DerFault) → IsDerWithin 64 a → octets ≡ encoding a ++ rest
    → IsFirstFault octets at fault → ⊥
no_fault_where_read octets rest a at fault der parts first = no_element (outermost_fault octets at fault first) (a, rest, der, parts)
