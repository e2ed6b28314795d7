-- The steps of a reader of trees: a leaf, a branch, one more kid, and why there is none.
use Rattle.std.proofs.Common.{◌≡◌, ℕ, ◌-◌, ◌<◌, List, [], ◌∷◌, ◌++◌, length, drop, Ok, Err, refl, sym, ap, subst, ◌∙◌, append_assoc, arith}
use Rattle.std.proofs.lemmas.List.{append-nil, length-append, take_at, take-append-drop}
use Rattle.der_core.specs.Borrowed.{contents_octets}
use Rattle.der_core.specs.declared.fault.DerFault.{DerFault}
use Rattle.der_core.specs.DerElement.{DerElement, Primitive, Constructed, DerElements, Nil, Cons, row, tag_of}
use Rattle.der_core.specs.Encoding.{encoding, encodings, form_bit, IsDerWithin}
use Rattle.der_core.specs.Facts.Fronts.{ok_is, some_octets, fronts}
use Rattle.der_core.specs.Head.{head_at, HasHead}
use Rattle.der_core.specs.Reading.{AreDerWithin, HasElementsWithin, IsFirst}
use Rattle.der_core.proofs.Begins.{HasElement}
use Rattle.der_core.proofs.Heads.{head_again}

-- ---- what is read

-- a head is the same wherever a level is left
pub at_level : {tag : ℕ} {octets contents rest : List ℕ} (levels : ℕ) → 0 < levels → HasHead 64 octets tag contents rest
    → HasHead levels octets tag contents rest
at_level levels some head = record { parts = head.parts; is_tag = head.is_tag; short = head.short; some = some }

pub leaf_read : {levels tag : ℕ} {octets content rest : List ℕ} → HasHead levels octets tag content rest → (form_bit tag ≡ 1 → ⊥)
    → IsDerWithin levels (Primitive tag content) × (octets ≡ encoding (Primitive tag content) ++ rest)
leaf_read head bit = (record { formed = (head.is_tag, omega (arith, bit)); nested = head.some; short = head.short }, head.parts)

pub branch_read : {levels tag : ℕ} {octets contents rest : List ℕ} (kids : DerElements) → HasHead levels octets tag contents rest → form_bit tag ≡ 1 →
    AreDerWithin (levels - 1) kids → contents ≡ encodings kids → IsDerWithin levels (Constructed tag kids) × (octets ≡ encoding (Constructed tag kids) ++ rest)
branch_read {levels} {tag} {octets} {rest = rest} kids head bit read same =
    let head' = subst (λ (o : List ℕ). HasHead levels octets tag o rest) same head in
    (record { formed = (head.is_tag, bit, read.formed); nested = omega (arith, read.nested, head.some); short = (head'.short, read.short) }, head'.parts)

-- ---- if nothing is read

pub no_head : (levels : ℕ) (octets : List ℕ) (fault : DerFault) → head_at levels octets ≡ Err fault → HasElement levels octets → ⊥
no_head levels octets fault failed has =
    let again : head_at levels octets ≡ Ok (tag_of has.0, contents_octets has.0, has.1) = ap (head_at levels) has.3 ∙ head_again levels has.0 has.1 has.2 in
    absurd cc

inner : (levels tag : ℕ) (contents : List ℕ) (a : DerElement) → IsDerWithin levels a → form_bit tag ≡ 1 → tag ≡ tag_of a → contents ≡ contents_octets a
    → HasElementsWithin (levels - 1) contents
inner levels tag contents (Primitive t content) der bit same_tag same = absurd (omega (arith, ap form_bit same_tag, der.formed.1))
inner levels tag contents (Constructed t kids) der bit same_tag same =
    (kids, record { formed = der.formed.2; nested = omega (arith, der.nested); short = der.short.1 }, same)

pub no_kids : (levels tag : ℕ) (octets contents rest : List ℕ) → head_at levels octets ≡ Ok (tag, contents, rest) → form_bit tag ≡ 1
    → (HasElementsWithin (levels - 1) contents → ⊥) → HasElement levels octets → ⊥
no_kids levels tag octets contents rest head bit none has =
    let found : ℕ × List ℕ × List ℕ = (tag, contents, rest) in
    let again : ℕ × List ℕ × List ℕ = (tag_of has.0, contents_octets has.0, has.1) in
    let same : found ≡ again = ok_is found again (sym head ∙ ap (head_at levels) has.3 ∙ head_again levels has.0 has.1 has.2) in
    none (inner levels tag contents has.0 has.2 bit (ap (λ (p : ℕ × List ℕ × List ℕ). p.0) same) (ap (λ (p : ℕ × List ℕ × List ℕ). p.1) same))

first_and_others : (levels : ℕ) (octets : List ℕ) (elements : DerElements) → 0 < length octets → AreDerWithin levels elements → octets ≡ encodings elements
    → HasElement levels octets
first_and_others levels octets Nil some der same = absurd (omega (arith, ap length same))
first_and_others levels octets (Cons a elements) some der same =
    (a, encodings elements, record { formed = der.formed.0; nested = omega (arith, der.nested); short = der.short.0 }, same)

pub no_first : (levels : ℕ) (octets : List ℕ) → 0 < length octets → (HasElement levels octets → ⊥) → HasElementsWithin levels octets → ⊥
no_first levels octets some none has = none (first_and_others levels octets has.0 some has.1 has.2)

others : (levels : ℕ) (octets after : List ℕ) (kid : DerElement) (elements : DerElements) → IsDerWithin levels kid → octets ≡ encoding kid ++ after
    → AreDerWithin levels elements → octets ≡ encodings elements → HasElementsWithin levels after
others levels octets after kid Nil der parts all same =
    absurd (omega (arith, some_octets kid, length-append (encoding kid) after, ap length parts, ap length same))
others levels octets after kid (Cons a elements) der parts all same =
    let f = fronts kid a after (encodings elements) der.formed all.formed.0 der.short all.short.0 (sym parts ∙ same) in
    (elements, record { formed = all.formed.1; nested = omega (arith, all.nested); short = all.short.1 }, f.1)

pub rest_goes_on : (levels : ℕ) (octets after : List ℕ) (kid : DerElement) → IsDerWithin levels kid → octets ≡ encoding kid ++ after
    → HasElementsWithin levels octets → HasElementsWithin levels after
rest_goes_on levels octets after kid der parts has = others levels octets after kid has.0 der parts has.1 has.2

-- ---- the first element of octets

pub first_read : (octets rest : List ℕ) (a : DerElement) → IsDerWithin 64 a → octets ≡ encoding a ++ rest → IsFirst octets a (length octets - length rest)
first_read octets rest a der parts =
    let many : length octets - length rest ≡ length (encoding a) = omega (arith, ap length parts, length-append (encoding a) rest) in
    record { der = der; many = many; front = rw (many, parts) (take_at (encoding a) rest (length (encoding a)) refl) }

pub first_parts : (octets : List ℕ) (a : DerElement) (n : ℕ) → IsFirst octets a n → octets ≡ encoding a ++ drop n octets
first_parts octets a n first = sym (take-append-drop n octets) ∙ ap (λ (o : List ℕ). o ++ drop n octets) first.front

pub first_once : (octets : List ℕ) (a b : DerElement) (m n : ℕ) → IsFirst octets a m → IsFirst octets b n → (a ≡ b) × (m ≡ n)
first_once octets a b m n first second =
    let same = (fronts a b (drop m octets) (drop n octets) first.der.formed second.der.formed first.der.short second.der.short
    (sym (first_parts octets a m first) ∙ first_parts octets b n second)).0 in
    (same, first.many ∙ ap (λ (t : DerElement). length (encoding t)) same ∙ sym second.many)
