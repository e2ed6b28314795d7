-- Decimal digits of numbers up to 128 bits: how they begin, and which of them are numerals.
use Rattle.std.proofs.Common.{◌≡◌, ◌≢◌, ℕ, ◌+◌, ◌*◌, ◌/◌, ◌%◌, ◌^◌, ◌<◌, ◌≤◌, List, [], ◌∷◌, ◌++◌, length, length-append, get_or}
use Rattle.std.proofs.Common.{drop, append_assoc, append-nil, Option, Result, Ok, Err, sym, ap, subst, ◌∙◌, inl, inr, arith}
use Rattle.std.specs.Char.{digit_value}
use Rattle.std.specs.Fmt.{decimal}
use Rattle.std.specs.Option.{MatchOption}
use Rattle.std.specs.Result.{result_ok}
use Rattle.std.specs.Str.Parse.{AllDigits, IsNumeral, digits_value, digits_value_after, without_leading_plus, ParsesUnsigned}
use Rattle.std.proofs.lemmas.Bool.{cases_lt, cases_eq}
use Rattle.std.proofs.lemmas.Fmt.{decimal_is_IsNumeral_wide, decimal_step_wide, decimal_by_steps_wide, decimal_digit}
use Rattle.std.proofs.lemmas.List.{get_or_append_left, length-drop}
use Rattle.std.proofs.lemmas.Str.{digit_value_digit}
use Rattle.std.proofs.lemmas.Str.Parse.{digit_from_value, without_leading_plus_none, without_leading_plus_plus}
use Rattle.asn1_types.specs.Subidentifier.{IsSubidentifier}

-- the first digit of a number that isn't 0 isn't 0
abbrev Leads : ℕ → List ℕ → Type 0
Leads n digits = (0 < length digits) × (0 < n → 48 < get_or digits 0 0)

leads : (n : ℕ) → n < 10 ^ 64 → Leads n (decimal n)
leads n small = decimal_by_steps_wide Leads one more n small
  where
    one : (n : ℕ) → n < 10 → Leads n ((48 + n) ∷ [])
    one n low = (omega arith, λ positive. omega arith)

    more : (n : ℕ) (digits : List ℕ) → 10 ≤ n → Leads (n / 10) digits → Leads n (digits ++ ((48 + n % 10) ∷ []))
    more n digits high front =
        let last = length-append digits ((48 + n % 10) ∷ []) in
        let same = get_or_append_left digits ((48 + n % 10) ∷ []) 0 0 front.0 in
        let first = front.1 (omega arith) in
        (omega arith, λ positive. omega arith)

-- more digits than one begin with 1 to 9
pub leading_digit : (n : ℕ) → IsSubidentifier n → 1 < length (decimal n) → 49 ≤ get_or (decimal n) 0 0
leading_digit n bounded long =
    elim (cases_lt 0 n) [
      | inl positive ↦ (leads n (omega arith)).1 positive
      | inr none ↦
          let zero : n ≡ 0 = omega arith in
          let one = ap length (ap decimal zero ∙ decimal_digit 0 (omega arith)) in
          absurd (omega arith)
    ]

after_ge : (n : ℕ) (digits : List ℕ) → n ≤ digits_value_after 10 n digits
after_ge n [] = omega arith
after_ge n (c ∷ cs) = omega (arith, after_ge (n * 10 + digit_value c) cs)

decimal_after : (n : ℕ) (digits : List ℕ) → 0 < n → AllDigits 10 digits → digits_value_after 10 n digits < 10 ^ 64
    → decimal (digits_value_after 10 n digits) ≡ decimal n ++ digits
decimal_after n [] positive all small = sym (append-nil (decimal n))
decimal_after n (c ∷ cs) positive all small =
    let m : ℕ = n * 10 + digit_value c in
    let range = digit_value_digit c (digit_from_value c all.0) in
    let front : m / 10 ≡ n = omega (arith, all.0) in
    let last : 48 + m % 10 ≡ c = omega (arith, all.0) in
    decimal_after m cs (omega arith) all.1 small
    ∙ ap (λ x. x ++ cs) (decimal_step_wide m (omega arith) (omega (arith, after_ge m cs)) ∙ (λ i. decimal (front i) ++ (last i ∷ [])))
    ∙ append_assoc (decimal n) (c ∷ []) cs

-- one digit, or digits that begin with 1 to 9, are the digits of their number
numeral_is : (digits : List ℕ) → IsNumeral 10 digits → (1 < length digits → 49 ≤ get_or digits 0 0)
    → digits_value 10 digits < 10 ^ 64 → decimal (digits_value 10 digits) ≡ digits
numeral_is [] numeral lead small = absurd (omega (arith, numeral.0))
numeral_is (c ∷ []) numeral lead small =
    let range = digit_value_digit c (digit_from_value c numeral.1.0) in
    decimal_digit (0 * 10 + digit_value c) (omega (arith, numeral.1.0)) ∙ ap (λ x. x ∷ []) (omega arith)
numeral_is (c ∷ e ∷ cs) numeral lead small =
    let range = digit_value_digit c (digit_from_value c numeral.1.0) in
    let above : 49 ≤ c = lead (omega arith) in
    let is : 48 + (0 * 10 + digit_value c) ≡ c = omega arith in
    decimal_after (0 * 10 + digit_value c) (e ∷ cs) (omega arith) numeral.1.1 small
    ∙ ap (λ x. x ++ (e ∷ cs)) (decimal_digit (0 * 10 + digit_value c) (omega (arith, numeral.1.0)) ∙ ap (λ x. x ∷ []) is)

-- a digit is no sign
unsigned : (digits : List ℕ) → IsNumeral 10 digits → get_or digits 0 0 ≢ 43
unsigned [] numeral plus = absurd (omega (arith, numeral.0))
unsigned (c ∷ cs) numeral plus = let range = digit_from_value c numeral.1.0 in absurd (omega arith)

-- `parse` of a text that doesn't begin like the digits of a number
pub parsed : {E : Type 0} (text : List ℕ) (r : Result ℕ E) (o : Option ℕ) → ParsesUnsigned 128 10 text r
    → (1 < length text → 49 ≤ get_or text 0 0) → o ≡ result_ok r
    → MatchOption o ((arc : ℕ) → IsSubidentifier arc → text ≢ decimal arc) (λ arc. IsSubidentifier arc × (text ≡ decimal arc))
parsed text (Ok n) o read lead e = rw e (elim (cases_eq (get_or text 0 0) 43) [
  | inl plus ↦
      let bare = without_leading_plus_plus text plus in
      let some : 0 < length (drop 1 text) = subst (λ t. 0 < length t) bare read.0.0.0 in
      let short = length-drop 1 text in
      absurd (omega arith)
  | inr signless ↦
      let bare = without_leading_plus_none text signless in
      let numeral : IsNumeral 10 text = subst (IsNumeral 10) bare read.0.0 in
      let value : n ≡ digits_value 10 text = read.1 ∙ ap (digits_value 10) bare in
      let small : digits_value 10 text < 2 ^ 128 = subst (λ t. digits_value 10 t < 2 ^ 128) bare read.0.1 in
      (omega arith, sym (ap decimal value ∙ numeral_is text numeral lead (omega arith)))
])
parsed text (Err x) o refused lead e = rw e (λ n bounded printed.
    let read = decimal_is_IsNumeral_wide n (omega arith) in
    let numeral : IsNumeral 10 text = subst (IsNumeral 10) (sym printed) read.0 in
    let bare = without_leading_plus_none text (unsigned text numeral) in
    let value : digits_value 10 (without_leading_plus text) ≡ n = ap (digits_value 10) (bare ∙ printed) ∙ read.1 in
    refused (subst (IsNumeral 10) (sym bare) numeral, omega arith))

-- a number is determined by its digits
pub decimal_once : (m n : ℕ) → IsSubidentifier m → IsSubidentifier n → decimal m ≡ decimal n → m ≡ n
decimal_once m n h k e =
    sym (decimal_is_IsNumeral_wide m (omega arith)).1 ∙ ap (digits_value 10) e
    ∙ (decimal_is_IsNumeral_wide n (omega arith)).1
