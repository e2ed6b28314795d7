-- Octets in two digits each.
use Rattle.std.proofs.Common.{◌≡◌, ℕ, zero, suc, Bool, true, ◌==◌, ◌&&◌, inl, inr, ◌+◌, ◌-◌, ◌^◌, ◌<◌, ◌/◌, ◌%◌}
use Rattle.std.proofs.Common.{false, List, [], ◌∷◌, ◌++◌, length, take, slice_index, refl, sym, ap, ◌∙◌, Some, arith}
use Rattle.std.specs.Fmt.{format_spec, digits, digit_glyph, digits_output, styled_digits_output}
use Rattle.std.proofs.lemmas.Bool.{and_parts, cases_lt, eqb-true}
use Rattle.std.proofs.lemmas.Fmt.{hex_byte}
use Rattle.std.proofs.lemmas.List.{take_more}
use Rattle.hex.specs.Hex.{encode_lower, encode_with, lower_digits}

-- whether the digits of all numbers below n are those of the table
abbrev are_digits : ℕ → Bool
are_digits zero = true
are_digits (suc n) = digit_glyph false n == slice_index lower_digits n && are_digits n

digit_below : (n k : ℕ) → are_digits n ≡ true → k < n → digit_glyph false k ≡ slice_index lower_digits k
digit_below zero k test below = absurd (omega arith)
digit_below (suc n) k test below =
    let parts = and_parts (digit_glyph false n == slice_index lower_digits n) (are_digits n) test in
    elim (cases_lt k n) [
      | inl less ↦ digit_below n k parts.1 less
      | inr more ↦
          let top : k ≡ n = omega arith in
          rw top (eqb-true _ _ parts.0)
    ]

-- the digit of a number below 16
digit : (n : ℕ) → n < 16 → digit_glyph false n ≡ slice_index lower_digits n
digit n below = digit_below 16 n refl below

two_digits : (octet : ℕ) → octet < 256 → digit_glyph false (octet / 16) ∷ digit_glyph false (octet % 16) ∷ [] ≡ encode_lower (octet ∷ [])
unfolding encode_with
two_digits octet small = cc (digit (octet / 16) (omega arith), digit (octet % 16) (omega arith))

-- what `{:02x}` writes
pub octet_written : (d : _) (s : _) (octet : ℕ) → s ≡ format_spec 32 0 4 2 (2 ^ 64 - 1) → digits_output d ≡ Some (digits 16 false octet) → octet < 256
    → styled_digits_output d s ≡ Some (encode_lower (octet ∷ []))
octet_written d s octet layout shown small =
    rw (layout, shown) (ap Some (hex_byte false octet small ∙ two_digits octet small))

-- the digits of two lists of octets
digits-append : (xs ys : List ℕ) → encode_lower xs ++ encode_lower ys ≡ encode_lower (xs ++ ys)
unfolding encode_with
digits-append [] ys = refl
digits-append (x ∷ xs) ys =
    ap (λ more. slice_index lower_digits (x / 16) ∷ slice_index lower_digits (x % 16) ∷ more) (digits-append xs ys)

pub one_more_octet : (octets : List ℕ) (i : ℕ) → i < length octets
    → encode_lower (take i octets) ++ encode_lower (slice_index octets i ∷ []) ≡ encode_lower (take (i + 1) octets)
one_more_octet octets i within =
    digits-append (take i octets) (slice_index octets i ∷ []) ∙ ap encode_lower (sym (take_more octets i 0 within))
