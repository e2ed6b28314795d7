-- That octets are those of one list of entries at most, and what is left behind the first entry.
use Rattle.std.specs.Prelude.{◌≡◌, ℕ, ◌<◌, ◌≤◌, List, [], ◌∷◌, ◌++◌, length, take, replicate}
use Rattle.std.specs.Coded.{×_prop, le_prop}
use Rattle.std.specs.Int.{w32, from_le_bytes}
use Rattle.std.specs.List.{AllByRecursion, AllByRecursion-prop}
use Rattle.std.proofs.Common.{refl, sym, ap, ◌∙◌, arith, length-append, append_assoc}
use Rattle.std.proofs.Math.Seq.{take-append_seam}
use Rattle.std.proofs.lemmas.List.{append_cancel_left, length-replicate, take-append-le}
use mathlib.Core.HLevel.{Σ_prop_path}
use Rattle.der_core.specs.Facts.InBounds.{numbers-set, octets-set}
use Rattle.pe_core.specs.Fields.{u32_at}
use Rattle.pe_core.specs.Entries.{IsEntry, padding, laid_out, AreLaidOut, AreEntries, HasEntries, IsTable}

pub IsEntry-prop : (octets : List ℕ) → IsProp (IsEntry octets)
IsEntry-prop octets = hlevel (numbers-set, le_prop)

AreLaidOut-prop : (octets : List ℕ) (entries : List (List ℕ)) (behind : ℕ) → IsProp (AreLaidOut octets entries behind)
AreLaidOut-prop octets entries behind = hlevel (octets-set, le_prop)

-- ---- the first entry

pub front_number : (e r : List ℕ) → 4 ≤ length e → u32_at (e ++ r) 0 ≡ u32_at e 0
unfolding u32_at
front_number e r long = ap (from_le_bytes w32) (take-append-le 4 e r long)

pub same_size : (e f r s : List ℕ) → IsEntry e → IsEntry f → e ++ r ≡ f ++ s → length e ≡ length f
same_size e f r s first second same =
    sym first.stated ∙ sym (front_number e r (omega (arith, first.long))) ∙ ap (λ (o : List ℕ). u32_at o 0) same
    ∙ front_number f s (omega (arith, second.long)) ∙ second.stated

pub same_entry : (e f r s : List ℕ) → IsEntry e → IsEntry f → e ++ r ≡ f ++ s → e ≡ f
same_entry e f r s first second same =
    sym (take-append_seam e r) ∙ ap (λ (n : ℕ). take n (e ++ r)) (same_size e f r s first second same)
    ∙ ap (take (length f)) same ∙ take-append_seam f s

-- what is behind an entry of this size
abbrev pub after : ℕ → List (List ℕ) → ℕ → List ℕ
after size [] behind = replicate behind 0
after size (entry ∷ entries) behind = padding size ++ laid_out (entry ∷ entries) behind

pub laid_front : (e : List ℕ) (es : List (List ℕ)) (behind : ℕ) → laid_out (e ∷ es) behind ≡ e ++ after (length e) es behind
laid_front e [] behind = refl
laid_front e (n ∷ es) behind = append_assoc e (padding (length e)) (laid_out (n ∷ es) behind)

pub long_front : (e : List ℕ) (es : List (List ℕ)) (behind : ℕ) → IsEntry e → 8 ≤ length (laid_out (e ∷ es) behind)
long_front e es behind is =
    omega (arith, is.long, ap length (laid_front e es behind), length-append e (after (length e) es behind))

pub long_after : (size : ℕ) (e : List ℕ) (es : List (List ℕ)) (behind : ℕ) → IsEntry e → 8 ≤ length (after size (e ∷ es) behind)
long_after size e es behind is =
    omega (arith, long_front e es behind is, length-append (padding size) (laid_out (e ∷ es) behind))

few_zeros : (behind : ℕ) → behind < 8 → length {A = ℕ} (replicate behind 0) < 8
few_zeros behind few = omega (arith, few, length-replicate {A = ℕ} behind 0)

-- ---- one list

tails : (size : ℕ) (es fs : List (List ℕ)) (i j : ℕ) → AllByRecursion IsEntry es → AllByRecursion IsEntry fs → i < 8 → j < 8
    → (laid_out es i ≡ laid_out fs j → es ≡ fs) → after size es i ≡ after size fs j → es ≡ fs
tails size [] [] i j all all' few few' step same = refl
tails size [] (f ∷ fs) i j all all' few few' step same =
    absurd (omega (arith, ap length same, few_zeros i few, long_after size f fs j all'.0))
tails size (e ∷ es) [] i j all all' few few' step same =
    absurd (omega (arith, ap length same, few_zeros j few', long_after size e es i all.0))
tails size (e ∷ es) (f ∷ fs) i j all all' few few' step same =
    step (append_cancel_left (padding size) (laid_out (e ∷ es) i) (laid_out (f ∷ fs) j) same)

pub same_list : (es fs : List (List ℕ)) (i j : ℕ) → AllByRecursion IsEntry es → AllByRecursion IsEntry fs → i < 8 → j < 8
    → laid_out es i ≡ laid_out fs j → es ≡ fs
same_list [] [] i j all all' few few' same = refl
same_list [] (f ∷ fs) i j all all' few few' same =
    absurd (omega (arith, ap length same, few_zeros i few, long_front f fs j all'.0))
same_list (e ∷ es) [] i j all all' few few' same =
    absurd (omega (arith, ap length same, few_zeros j few', long_front e es i all.0))
same_list (e ∷ es) (f ∷ fs) i j all all' few few' same =
    let fronts : e ++ after (length e) es i ≡ f ++ after (length f) fs j = sym (laid_front e es i) ∙ same ∙ laid_front f fs j in
    let first : e ≡ f = same_entry e f (after (length e) es i) (after (length f) fs j) all.0 all'.0 fronts in
    let moved : e ++ after (length e) es i ≡ e ++ after (length e) fs j =
    fronts ∙ ap (λ (o : List ℕ). o ++ after (length o) fs j) (sym first) in
    let behind : after (length e) es i ≡ after (length e) fs j =
    append_cancel_left e (after (length e) es i) (after (length e) fs j) moved in
    let others = same_list es fs i j all.1 all'.1 few few' in
    let rest : es ≡ fs = tails (length e) es fs i j all.1 all'.1 few few' others behind in
    ap (λ (o : List ℕ). o ∷ es) first ∙ ap (λ (os : List (List ℕ)). f ∷ os) rest

same_behind : (es : List (List ℕ)) (i j : ℕ) → laid_out es i ≡ laid_out es j → i ≡ j
same_behind [] i j same = sym (length-replicate i 0) ∙ ap length same ∙ length-replicate j 0
same_behind (e ∷ []) i j same =
    sym (length-replicate i 0) ∙ ap length (append_cancel_left e (replicate i 0) (replicate j 0) same) ∙ length-replicate j 0
same_behind (e ∷ (n ∷ es)) i j same =
    same_behind (n ∷ es) i j (append_cancel_left (e ++ padding (length e)) (laid_out (n ∷ es) i) (laid_out (n ∷ es) j) same)

AreEntries-prop : (octets : List ℕ) (entries : List (List ℕ)) → IsProp (AreEntries octets entries)
AreEntries-prop octets entries =
    ×_prop (AllByRecursion-prop IsEntry IsEntry-prop entries)
    (λ a b. Σ_prop_path (AreLaidOut-prop octets entries) (same_behind entries a.0 b.0 (sym a.1.written ∙ b.1.written)))

pub one_list : (octets : List ℕ) (es fs : List (List ℕ)) → AreEntries octets es → AreEntries octets fs → es ≡ fs
one_list octets es fs a b = same_list es fs a.1.0 b.1.0 a.0 b.0 a.1.1.few b.1.1.few (sym a.1.1.written ∙ b.1.1.written)

pub HasEntries-prop : (octets : List ℕ) → IsProp (HasEntries octets)
HasEntries-prop octets a b = Σ_prop_path (AreEntries-prop octets) (one_list octets a.0 b.0 a.1 b.1)

-- ---- what is left

-- Behind an entry are fewer than eight zeros, or zeros up to the next multiple of eight and then
-- the other entries.
pub record AreBehind (size : ℕ) (behind : List ℕ) (entries : List (List ℕ)) : Type 0 where
  pub last : length behind < 8 → AreEntries behind entries
  pub more : 8 ≤ length behind → (next : List ℕ) × (behind ≡ padding size ++ next) × IsTable next entries

behind_last : (size : ℕ) (behind : List ℕ) (i : ℕ) → i < 8 → behind ≡ replicate i 0 → AreBehind size behind []
behind_last size behind i few zeros = record {
  last = λ _. (tt, (i, record { few = few; written = zeros }));
  more = λ long. absurd (omega (arith, long, ap length zeros, few_zeros i few));
}

behind_more : (size : ℕ) (behind : List ℕ) (n : List ℕ) (es : List (List ℕ)) (i : ℕ) → AllByRecursion IsEntry (n ∷ es) → i < 8
    → behind ≡ padding size ++ laid_out (n ∷ es) i → AreBehind size behind (n ∷ es)
behind_more size behind n es i all few is = record {
  last = λ short. absurd (omega (arith, short, ap length is, long_after size n es i all.0));
  more = λ _. (laid_out (n ∷ es) i, is, record { some = λ none. absurd cc; are = (all, (i, record { few = few; written = refl })) });
}

behind_of : (size : ℕ) (behind : List ℕ) (es : List (List ℕ)) (i : ℕ) → AllByRecursion IsEntry es → i < 8
    → behind ≡ after size es i → AreBehind size behind es
behind_of size behind [] i all few is = behind_last size behind i few is
behind_of size behind (n ∷ es) i all few is = behind_more size behind n es i all few is

-- the entry that octets begin with is the first of their entries
pub first_of : (octets : List ℕ) (entries : List (List ℕ)) → AreEntries octets entries → (e behind : List ℕ) → IsEntry e
    → octets ≡ e ++ behind → (others : List (List ℕ)) × (entries ≡ e ∷ others) × AreBehind (length e) behind others
first_of octets [] are e behind is parts =
    absurd (omega (arith, is.long, ap length parts, ap length are.1.1.written, few_zeros are.1.0 are.1.1.few, length-append e behind))
first_of octets (f ∷ fs) are e behind is parts =
    let i : ℕ = are.1.0 in
    let fronts : f ++ after (length f) fs i ≡ e ++ behind = sym (laid_front f fs i) ∙ sym are.1.1.written ∙ parts in
    let first : f ≡ e = same_entry f e (after (length f) fs i) behind are.0.0 is fronts in
    let moved : e ++ behind ≡ e ++ after (length e) fs i =
    sym fronts ∙ ap (λ (o : List ℕ). o ++ after (length o) fs i) first in (
      fs,
      ap (λ (o : List ℕ). o ∷ fs) first,
      behind_of (length e) behind fs i are.0.1 are.1.1.few (append_cancel_left e behind (after (length e) fs i) moved),
    )
