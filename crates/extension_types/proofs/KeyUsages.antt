-- The bits of key usages by their numbers.
use Rattle.std.proofs.Common.{◌≡◌, ℕ, ◌+◌, ◌-◌, ◌*◌, ◌/◌, ◌%◌, ◌^◌, ◌<◌, ◌≤◌, zero, suc, List, [], ◌∷◌, length, refl, sym, ap, subst, ◌∙◌, arith, inl, inr}
use Rattle.std.specs.Int.{w8, reverse_bits, reverse_bits_onto, trailing_zeros}
use Rattle.std.proofs.lemmas.Nat.Bits.{bit_at-trailing_zeros}
use Rattle.std.proofs.lemmas.Bool.{cases_lt}
use Rattle.asn1_types.specs.declared.bit_string.BitString.{BitString}
use Rattle.extension_types.specs.KeyUsage.{octet_bit, HasBit, IsUsageOf}

below_8 : (P : ℕ → Type 0) → P 0 → P 1 → P 2 → P 3 → P 4 → P 5 → P 6 → P 7 → (n : ℕ) → n < 8 → P n
below_8 P a b c d e f g h zero lt = a
below_8 P a b c d e f g h (suc zero) lt = b
below_8 P a b c d e f g h (suc (suc zero)) lt = c
below_8 P a b c d e f g h (suc (suc (suc zero))) lt = d
below_8 P a b c d e f g h (suc (suc (suc (suc zero)))) lt = e
below_8 P a b c d e f g h (suc (suc (suc (suc (suc zero))))) lt = f
below_8 P a b c d e f g h (suc (suc (suc (suc (suc (suc zero)))))) lt = g
below_8 P a b c d e f g h (suc (suc (suc (suc (suc (suc (suc zero))))))) lt = h
below_8 P a b c d e f g h (suc (suc (suc (suc (suc (suc (suc (suc n)))))))) lt = absurd (omega (arith, lt))

abbrev turned : ℕ → ℕ
turned o = (((((((0 * 2 + o % 2) * 2 + o / 2 % 2) * 2 + o / 2 / 2 % 2) * 2 + o / 2 / 2 / 2 % 2) * 2 + o / 2 / 2 / 2 / 2 % 2) * 2 + o / 2 / 2 / 2 / 2 / 2 % 2)
    * 2 + o / 2 / 2 / 2 / 2 / 2 / 2 % 2) * 2 + o / 2 / 2 / 2 / 2 / 2 / 2 / 2 % 2

is_turned : (o : ℕ) → reverse_bits w8 o ≡ turned o
unfolding reverse_bits_onto
is_turned o = refl

turned_bit : (o n : ℕ) → n < 8 → reverse_bits w8 o / 2 ^ (7 - n) % 2 ≡ o / 2 ^ n % 2
turned_bit o n lt = ap (λ (t : ℕ). t / 2 ^ (7 - n) % 2) (is_turned o) ∙ below_8 (λ m. turned o / 2 ^ (7 - m) % 2 ≡ o / 2 ^ m % 2) (omega arith) (omega arith)
    (omega arith) (omega arith) (omega arith) (omega arith) (omega arith) (omega arith) n lt

low_bit : (flags n : ℕ) → n < 8 → flags % 256 / 2 ^ n % 2 ≡ flags / 2 ^ n % 2
low_bit flags = below_8 (λ n. flags % 256 / 2 ^ n % 2 ≡ flags / 2 ^ n % 2) (omega arith) (omega arith) (omega arith) (omega arith) (omega arith) (omega arith)
    (omega arith) (omega arith)

-- the first eight flags, the lowest in the highest bit
abbrev pub HasFirst : ℕ → ℕ → Type 0
HasFirst flags first = (n : ℕ) → n < 8 → first / 2 ^ (7 - n) % 2 ≡ flags / 2 ^ n % 2

pub first_octet : (flags first : ℕ) → first ≡ reverse_bits w8 (flags % 256) → HasFirst flags first
first_octet flags first is n lt = ap (λ (o : ℕ). o / 2 ^ (7 - n) % 2) is ∙ turned_bit (flags % 256) n lt ∙ low_bit flags n lt

-- a bit that isn't 1 is 0
pub clear : (tested n : ℕ) → tested ≡ n % 2 → (tested ≡ 1 → ⊥) → n % 2 ≡ 0
clear tested n is none = elim (cases_lt (n % 2) 1) [
  | inl lt ↦ omega (arith, lt)
  | inr ge ↦ absurd (none (omega (arith, is, ge)))
]

-- ---- the bits of one octet, and of two

one_bit : (first : ℕ) (n : ℕ) → n < 8 → octet_bit (first ∷ []) n ≡ first / 2 ^ (7 - n) % 2
one_bit first = below_8 (λ n. octet_bit (first ∷ []) n ≡ first / 2 ^ (7 - n) % 2) refl refl refl refl refl refl refl refl

two_bit : (first second : ℕ) (n : ℕ) → n < 8 → octet_bit (first ∷ second ∷ []) n ≡ first / 2 ^ (7 - n) % 2
two_bit first second = below_8 (λ n. octet_bit (first ∷ second ∷ []) n ≡ first / 2 ^ (7 - n) % 2) refl refl refl refl refl refl refl refl

-- the second octet is 80, of which only the first bit is 1
second_bit : (first : ℕ) (n : ℕ) → n < 8 → octet_bit (first ∷ 128 ∷ []) (8 + n) ≡ 1 → n ≡ 0
second_bit first = below_8 (λ n. octet_bit (first ∷ 128 ∷ []) (8 + n) ≡ 1 → n ≡ 0) (λ e. refl) (λ e. absurd cc) (λ e. absurd cc) (λ e. absurd cc)
    (λ e. absurd cc) (λ e. absurd cc) (λ e. absurd cc) (λ e. absurd cc)

-- ---- key usages

no_bit : (n : ℕ) → n < 8 → 0 / 2 ^ (7 - n) % 2 ≡ 0
no_bit = below_8 (λ n. 0 / 2 ^ (7 - n) % 2 ≡ 0) refl refl refl refl refl refl refl refl

pub no_usage : (flags first : ℕ) (bits : BitString) → (bits.unused ≡ 0) × (bits.payload ≡ []) → flags / 256 % 2 ≡ 0 → HasFirst flags first → first ≡ 0
    → IsUsageOf flags bits
no_usage flags first bits is high octet zeros =
    let none : length bits.payload ≡ 0 = ap length is.1 in
    record {
      flagged = λ n le. (λ h. absurd (omega (arith, none, h.within)), λ one. absurd (no_flag n le one));
      only = λ n h. absurd (omega (arith, none, h.within));
      last = λ n last. absurd (omega (arith, none, last));
      padded = λ n lt one. absurd (omega (arith, none, lt));
    }
  where
    no_flag : (n : ℕ) → n ≤ 8 → flags / 2 ^ n % 2 ≡ 1 → ⊥
    no_flag n le one =
        elim (cases_lt n 8) [
          | inl lt ↦ let clear : flags / 2 ^ n % 2 ≡ 0 = sym (octet n lt) ∙ ap (λ (o : ℕ). o / 2 ^ (7 - n) % 2) zeros ∙ no_bit n lt in absurd cc
          | inr ge ↦ let eight : n ≡ 8 = omega (arith, le, ge) in omega (arith, high, subst (λ (m : ℕ). flags / 2 ^ m % 2 ≡ 1) eight one)
        ]

pub one_octet : (flags first : ℕ) (bits : BitString) → (bits.unused ≡ trailing_zeros w8 first) × (bits.payload ≡ first ∷ []) → flags / 256 % 2 ≡ 0
    → HasFirst flags first → 0 < first → first < 2 ^ 8 → IsUsageOf flags bits
one_octet flags first bits is high octet some fits =
    let one : length bits.payload ≡ 1 = ap length is.1 in
    let lowest = bit_at-trailing_zeros w8 first some fits in
    let spelled : (n : ℕ) → n < 8 → octet_bit bits.payload n ≡ first / 2 ^ (7 - n) % 2 = λ n lt. ap (λ (p : List ℕ). octet_bit p n) is.1 ∙ one_bit first n lt in
    let bit : (n : ℕ) → n < 8 → octet_bit bits.payload n ≡ flags / 2 ^ n % 2 = λ n lt. spelled n lt ∙ octet n lt in
    let used : (n : ℕ) → n < 8 → octet_bit bits.payload n ≡ 1 → n + bits.unused < 8 = λ n lt set.
    elim (cases_lt (7 - n) (trailing_zeros w8 first)) [
      | inl below ↦ let clear = lowest.2 (7 - n) below in absurd (omega (arith, sym set ∙ spelled n lt ∙ clear))
      | inr above ↦ omega (arith, is.0, lt, above)
    ] in
    let has : (n : ℕ) → n < 8 → octet_bit bits.payload n ≡ 1 → HasBit bits n = λ n lt set. record { within = omega (arith, one, used n lt set); one = set } in
    let below : (n : ℕ) → HasBit bits n → n < 8 = λ n h. omega (arith, one, h.within) in
    record {
      flagged = λ n le. (
        λ h. sym (bit n (below n h)) ∙ h.one,
        λ set. elim (cases_lt n 8) [
          | inl lt ↦ has n lt (bit n lt ∙ set)
          | inr ge ↦ let eight : n ≡ 8 = omega (arith, le, ge) in absurd (omega (arith, high, subst (λ (m : ℕ). flags / 2 ^ m % 2 ≡ 1) eight set))
        ],
      );
      only = λ n h. omega (arith, below n h);
      last = λ n last.
          let lt : n < 8 = omega (arith, one, last) in
          let at : 7 - n ≡ trailing_zeros w8 first = omega (arith, one, is.0, last) in
          has n lt (spelled n lt ∙ ap (λ (m : ℕ). first / 2 ^ m % 2) at ∙ lowest.1);
      padded = λ n lt set. has n (omega (arith, one, lt)) set;
    }

pub two_octets : (flags first : ℕ) (bits : BitString) → (bits.unused ≡ 7) × (bits.payload ≡ first ∷ 128 ∷ []) → flags / 256 % 2 ≡ 1 → HasFirst flags first
    → IsUsageOf flags bits
two_octets flags first bits is high octet =
    let two : length bits.payload ≡ 2 = ap length is.1 in
    let bit : (n : ℕ) → n < 8 → octet_bit bits.payload n ≡ flags / 2 ^ n % 2 =
    λ n lt. ap (λ (p : List ℕ). octet_bit p n) is.1 ∙ two_bit first 128 n lt ∙ octet n lt in
    let last_bit : (n : ℕ) → n ≡ 8 → HasBit bits n = λ n at. record {
      within = omega (arith, two, is.0, at);
      one = ap (λ (p : List ℕ). octet_bit p n) is.1 ∙ ap (λ (m : ℕ). octet_bit (first ∷ 128 ∷ []) m) at;
    } in
    let low : (n : ℕ) → HasBit bits n → n ≤ 8 = λ n h. omega (arith, two, is.0, h.within) in
    record {
      flagged = λ n le.
          elim (cases_lt n 8) [
            | inl lt ↦ (λ h. sym (bit n lt) ∙ h.one, λ set. record { within = omega (arith, two, is.0, lt); one = bit n lt ∙ set })
            | inr ge ↦ let eight : n ≡ 8 = omega (arith, le, ge) in (λ h. subst (λ (m : ℕ). flags / 2 ^ m % 2 ≡ 1) (sym eight) high, λ set. last_bit n eight)
          ];
      only = low;
      last = λ n last. last_bit n (omega (arith, two, is.0, last));
      padded = λ n lt set.
          elim (cases_lt n 8) [
            | inl below ↦ record { within = omega (arith, two, is.0, below); one = set }
            | inr ge ↦
                let at : 8 + (n - 8) ≡ n = omega (arith, ge) in
                let zero_there = second_bit first (n - 8) (omega (arith, two, lt, ge)) (ap (λ (m : ℕ). octet_bit (first ∷ 128 ∷ []) m) at
                ∙ ap (λ (p : List ℕ). octet_bit p n) (sym is.1) ∙ set) in
                last_bit n (omega (arith, ge, zero_there))
          ];
    }
