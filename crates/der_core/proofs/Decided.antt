-- Octets begin with an element or have a fault, which can be decided.
use Rattle.std.proofs.Common.{◌≡◌, ℕ, zero, suc, ◌+◌, ◌-◌, ◌≤◌, List, [], ◌∷◌, ◌++◌, length, Result}
use Rattle.std.proofs.Common.{Ok, Err, refl, sym, ap, subst, ◌∙◌, append-nil, arith, inl, inr, ◌⊎◌}
use Rattle.std.proofs.lemmas.Bool.{cases_eq}
use Rattle.std.proofs.lemmas.List.{length-append}
use Rattle.der_core.specs.declared.fault.DerFault.{DerFault}
use Rattle.der_core.specs.DerElement.{DerElement, Primitive, Constructed, Nil, Cons}
use Rattle.der_core.specs.Encoding.{length_octets, encoding, form_bit, framed, IsDer}
use Rattle.der_core.specs.Fault.{header_length, IsFirstFault}
use Rattle.der_core.specs.Facts.Fronts.{some_octets, fronts}
use Rattle.der_core.specs.Head.{IsOctets, head_at, HasHead}
use Rattle.der_core.specs.Facts.InnerFault.{ElementFault, KidsFault, Here, Inside, First, Next}
use Rattle.der_core.specs.Reading.{AreDerWithin, HasElementsWithin, HasNoFirst}
use Rattle.der_core.proofs.Begins.{HasElement}
use Rattle.der_core.proofs.Lengths.{IsOctets-front}
use Rattle.der_core.proofs.Heads.{head_taken}
use Rattle.der_core.proofs.Elements.{leaf_read, branch_read, first_read}
use Rattle.der_core.proofs.Faults.{first_fault, no_element}

-- a fault somewhere
abbrev SomeFault : ℕ → List ℕ → Type 0
SomeFault levels octets = (n : ℕ) × (fault : DerFault) × ElementFault levels octets n fault

abbrev SomeKidsFault : ℕ → List ℕ → Type 0
SomeKidsFault levels octets = (n : ℕ) × (fault : DerFault) × KidsFault levels octets n fault

IsOctets-back : (a b : List ℕ) → IsOctets (a ++ b) → IsOctets b
IsOctets-back [] b fits = fits
IsOctets-back (x ∷ a) b fits = IsOctets-back a b (λ i. fits (suc i))

-- one more before elements, or before a fault
one_more : (levels : ℕ) (octets : List ℕ) (has : HasElement levels octets) → HasElementsWithin levels has.1 ⊎ SomeKidsFault levels has.1
    → HasElementsWithin levels octets ⊎ SomeKidsFault levels octets
one_more levels octets has (inl kids) =
    inl (
      Cons has.0 kids.0,
      record { formed = (has.2.formed, kids.1.formed); nested = omega (arith, has.2.nested, kids.1.nested); short = (has.2.short, kids.1.short) },
      has.3 ∙ ap (λ (o : List ℕ). encoding has.0 ++ o) kids.2,
    )
one_more levels octets has (inr fault) = inr (length (encoding has.0) + fault.0, fault.1, Next has.2 has.3 fault.2 refl)

kids_decided : (levels fuel : ℕ) (octets : List ℕ) → ((o : List ℕ) → IsOctets o → HasElement levels o ⊎ SomeFault levels o) → length octets ≤ fuel
    → IsOctets octets → HasElementsWithin levels octets ⊎ SomeKidsFault levels octets
kids_decided levels fuel [] decide enough fits = inl (Nil, record { formed = tt; nested = omega arith; short = tt }, refl)
kids_decided levels zero (octet ∷ octets) decide enough fits = absurd (omega arith)
kids_decided levels (suc fuel) (octet ∷ octets) decide enough fits =
    elim (decide (octet ∷ octets) fits) [
      | inl has ↦ one_more levels (octet ∷ octets) has (kids_decided levels fuel has.1 decide
          (omega (arith, ap length has.3, length-append (encoding has.0) has.1, some_octets has.0))
          (IsOctets-back (encoding has.0) has.1 (subst IsOctets has.3 fits)))
      | inr fault ↦ inr (fault.0, fault.1, First (omega arith) fault.2)
    ]

contents_fit : (levels tag : ℕ) (octets contents rest : List ℕ) → HasHead levels octets tag contents rest → IsOctets octets → IsOctets contents
contents_fit levels tag octets contents rest head fits =
    IsOctets-back (tag ∷ length_octets (length contents)) contents (IsOctets-front (framed tag contents) rest (subst IsOctets head.parts fits))

branch_decided : (l tag : ℕ) (octets contents rest : List ℕ) → head_at (suc l) octets ≡ Ok (tag, contents, rest) → HasHead (suc l) octets tag contents rest
    → form_bit tag ≡ 1 → HasElementsWithin l contents ⊎ SomeKidsFault l contents → HasElement (suc l) octets ⊎ SomeFault (suc l) octets
branch_decided l tag octets contents rest found head bit (inl kids) =
    let same : l ≡ suc l - 1 = omega arith in
    let read = branch_read kids.0 head bit (subst (λ (m : ℕ). AreDerWithin m kids.0) same kids.1) kids.2 in
    inl (Constructed tag kids.0, rest, read.0, read.1)
branch_decided l tag octets contents rest found head bit (inr fault) = inr (header_length contents + fault.0, fault.1, Inside found bit fault.2 refl)

headed : (l : ℕ) → ((o : List ℕ) → IsOctets o → HasElement l o ⊎ SomeFault l o) → (octets : List ℕ) → IsOctets octets
    → (r : Result (ℕ × List ℕ × List ℕ) DerFault) → head_at (suc l) octets ≡ r → HasElement (suc l) octets ⊎ SomeFault (suc l) octets
headed l decide octets fits (Err fault) e = inr (0, fault, Here e)
headed l decide octets fits (Ok h) e =
    let head = head_taken (suc l) octets h.0 h.1 h.2 fits e in
    elim (cases_eq (form_bit h.0) 1) [
      | inl bit ↦ branch_decided l h.0 octets h.1 h.2 e head bit
          (kids_decided l (length h.1) h.1 decide (omega arith) (contents_fit (suc l) h.0 octets h.1 h.2 head fits))
      | inr other ↦ let read = leaf_read head other in inl (Primitive h.0 h.1, h.2, read.0, read.1)
    ]

no_levels : (octets : List ℕ) → IsOctets octets → (r : Result (ℕ × List ℕ × List ℕ) DerFault) → head_at 0 octets ≡ r → SomeFault 0 octets
no_levels octets fits (Err fault) e = (0, fault, Here e)
no_levels octets fits (Ok h) e = let head = head_taken 0 octets h.0 h.1 h.2 fits e in absurd (omega (arith, head.some))

decided : (levels : ℕ) (octets : List ℕ) → IsOctets octets → HasElement levels octets ⊎ SomeFault levels octets
decided zero octets fits = inr (no_levels octets fits (head_at 0 octets) refl)
decided (suc l) octets fits = headed l (decided l) octets fits (head_at (suc l) octets) refl

pub fault_found : (octets : List ℕ) → IsOctets octets → HasNoFirst octets → (place : ℕ) × (fault : DerFault) × IsFirstFault octets place fault
fault_found octets fits none =
    elim (decided 64 octets fits) [
      | inl has ↦ absurd (none has.0 (length octets - length has.1) (first_read octets has.1 has.0 has.2 has.3))
      | inr fault ↦ (fault.0, fault.1, first_fault octets fault.0 fault.1 fault.2)
    ]

-- octets are the encoding of an element, all of them, or of none
pub whole_or_not : (octets : List ℕ) → IsOctets octets
    → ((element : DerElement) × IsDer element × (octets ≡ encoding element)) ⊎ ((element : DerElement) → IsDer element → octets ≡ encoding element → ⊥)
whole_or_not octets fits =
    elim (decided 64 octets fits) [
      | inl has ↦ ends has.0 has.1 has.2 has.3
      | inr fault ↦ inr (λ a der is. no_element fault.2 (a, [], der, is ∙ sym (append-nil (encoding a))))
    ]
  where
    not_empty : (octet : ℕ) (rest : List ℕ) → octet ∷ rest ≡ [] → ⊥
    not_empty octet rest e = cc

    ends : (element : DerElement) (rest : List ℕ) → IsDer element → octets ≡ encoding element ++ rest
        → ((a : DerElement) × IsDer a × (octets ≡ encoding a)) ⊎ ((a : DerElement) → IsDer a → octets ≡ encoding a → ⊥)
    ends element [] der parts = inl (element, der, parts ∙ append-nil (encoding element))
    ends element (octet ∷ rest) der parts = inr (λ a der' is.
        let same = fronts element a (octet ∷ rest) [] der.formed der'.formed der.short der'.short (sym parts ∙ is ∙ sym (append-nil (encoding a))) in
        not_empty octet rest same.1)
