-- Numbers in decimal, and the octets that they begin with.
use Rattle.std.proofs.Common.{◌≡◌, ℕ, zero, suc, ◌<◌, ◌≤◌, List, [], ◌∷◌, length, get_or, Result, Ok, Err, refl, sym, ◌∙◌, ap, subst, arith, rules}
use Rattle.std.specs.Prelude.{decimal}
use Rattle.std.specs.Str.Parse.{AllDigits, ParsesUnsigned, digits_value}
use Rattle.std.proofs.lemmas.Fmt.{decimal-digits_value, decimal_digit, decimal_is_IsNumeral, decimal_nonempty, first_decimal}
use Rattle.std.proofs.lemmas.Str.Parse.{IsNumeralModel, digit_at, numerals_by_value, parse_plain, tells_digits}

own : IsNumeralModel (AllDigits 10) (digits_value 10)
own = numerals_by_value (AllDigits 10) tells_digits

-- The octets begin with a digit, and with 0 only if that is all.
abbrev pub BeginsAsNumber : List ℕ → Type 0
BeginsAsNumber word = (0 < length word) × (48 ≤ get_or word 0 0) × (get_or word 0 0 ≤ 57) × (get_or word 0 0 ≡ 48 → length word ≡ 1)

pub decimals_begin : (number : ℕ) → number < 1000 → BeginsAsNumber (decimal number)
decimals_begin zero small = subst BeginsAsNumber (sym (decimal_digit 0 (omega arith))) (omega arith, omega arith, omega arith, λ e. refl)
decimals_begin (suc n) small =
    let some = decimal_nonempty (suc n) (omega (arith, small)) in
    let digit = digit_at (decimal (suc n)) 0 (decimal_is_IsNumeral (suc n) (omega (arith, small))).0.1 some in
    let first = first_decimal (suc n) (omega arith) (omega (arith, small)) in
    (some, omega (arith, first), digit.1, λ e. absurd (omega (arith, e, first)))

-- what is read of such octets is in decimal what they are
pub read_is : {E : Type 0} (word : List ℕ) (number : ℕ) (result : Result ℕ E) → BeginsAsNumber word → ParsesUnsigned 64 10 word result → result ≡ Ok number
    → word ≡ decimal number
read_is {E} word number (Ok n) begins parses is =
    let plain = parse_plain own {E = E} 64 word (Ok n) parses (λ plus. omega (arith, plus, begins.1)) in
    let same : n ≡ number = search (rules) in
    let spelled = decimal-digits_value own word plain.0.0 plain.0.1 begins.3 plain.0.2 in
    sym spelled ∙ ap decimal (sym plain.1 ∙ same)
read_is word number (Err e) begins parses is = absurd cc

-- a sign isn't a number
pub no_sign : (number : ℕ) → number < 1000 → 45 ∷ [] ≡ decimal number → ⊥
no_sign number small same = let begins = subst BeginsAsNumber (sym same) (decimals_begin number small) in omega (arith, begins.1)
