-- What format specifiers padded with zeros write.
use Rattle.std.proofs.Common.{◌≡◌, ℕ, ◌+◌, ◌-◌, ◌^◌, ◌<◌, ◌≤◌, ◌/◌, ◌%◌, false, [], ◌∷◌, ◌++◌, arith, ⊎_elim}
use Rattle.std.specs.Fmt.{decimal, styled_decimal, padded_integral, format_spec, char_count}
use Rattle.std.proofs.lemmas.Fmt.{decimal_digit, decimal_step}
use Rattle.std.proofs.lemmas.Bool.{cases_lt}
use Rattle.asn1_types.specs.Time.{two_digits}

two_places : (n : ℕ) → 10 ≤ n → n < 100 → decimal n ≡ two_digits n
two_places n large small = rw (decimal_step n large (omega arith), decimal_digit (n / 10) (omega arith))

three_places : (n : ℕ) → 100 ≤ n → n < 1000 → decimal n ≡ two_digits (n / 10) ++ (48 + n % 10) ∷ []
three_places n large small =
    rw (decimal_step n (omega arith) (omega arith), two_places (n / 10) (omega arith) (omega arith))

four_places : (n : ℕ) → 1000 ≤ n → n < 10000 → decimal n ≡ two_digits (n / 100) ++ two_digits (n % 100)
four_places n large small =
    let tens : n / 10 % 10 ≡ n % 100 / 10 = omega arith in
    let ones : n % 10 ≡ n % 100 % 10 = omega arith in
    let front : n / 10 / 10 ≡ n / 100 = omega arith in
    rw (decimal_step n (omega arith) (omega arith), three_places (n / 10) (omega arith) (omega arith), tens, ones, front)

-- `{:02}`.
padded_two : (n : ℕ) → n < 100 → padded_integral (format_spec 32 0 4 2 (2 ^ 64 - 1)) false [] (decimal n) ≡ two_digits n
unfolding padded_integral char_count
padded_two n small = ⊎_elim
    (λ one. let high : n / 10 ≡ 0 = omega arith in let low : n % 10 ≡ n = omega arith in rw (decimal_digit n one, high, low))
    (λ two. rw (two_places n two small))
    (cases_lt n 10)

-- `{:04}`.
padded_four : (n : ℕ) → n < 10000 → padded_integral (format_spec 32 0 4 4 (2 ^ 64 - 1)) false [] (decimal n) ≡ two_digits (n / 100) ++ two_digits (n % 100)
unfolding padded_integral char_count
padded_four n small =
    let at_most_two : n < 100 → padded_integral (format_spec 32 0 4 4 (2 ^ 64 - 1)) false [] (decimal n) ≡ two_digits (n / 100) ++ two_digits (n % 100) =
    λ below. let century : n / 100 ≡ 0 = omega arith in let of_century : n % 100 ≡ n = omega arith in ⊎_elim
    (λ one. let high : n / 10 ≡ 0 = omega arith in let low : n % 10 ≡ n = omega arith in rw (decimal_digit n one, century, of_century, high, low))
    (λ two. rw (two_places n two below, century, of_century))
    (cases_lt n 10)
    in let at_least_three : 100 ≤ n → padded_integral (format_spec 32 0 4 4 (2 ^ 64 - 1)) false [] (decimal n) ≡ two_digits (n / 100) ++ two_digits (n % 100) =
    λ above. ⊎_elim
    (λ three. let e0 : n / 100 / 10 ≡ 0 = omega arith in
    let e1 : n / 100 % 10 ≡ n / 10 / 10 = omega arith in
    let e2 : n % 100 / 10 ≡ n / 10 % 10 = omega arith in
    let e3 : n % 100 % 10 ≡ n % 10 = omega arith in rw (three_places n above three, e0, e1, e2, e3))
    (λ four. rw (four_places n four small))
    (cases_lt n 1000)
    in
    ⊎_elim at_most_two at_least_three (cases_lt n 100)

pub two_written : (s : _) (shown n : ℕ) → s ≡ format_spec 32 0 4 2 (2 ^ 64 - 1) → shown ≡ n → n < 100 → styled_decimal s shown ≡ two_digits n
two_written s shown n layout same small = rw (layout, same) (padded_two n small)

pub four_written : (s : _) (shown n : ℕ) → s ≡ format_spec 32 0 4 4 (2 ^ 64 - 1) → shown ≡ n → n < 10000
    → styled_decimal s shown ≡ two_digits (n / 100) ++ two_digits (n % 100)
four_written s shown n layout same small = rw (layout, same) (padded_four n small)
