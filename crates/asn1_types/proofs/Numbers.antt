-- The number that octets encode, and its shortest contents.
use Rattle.std.proofs.Common.{◌≡◌, ℕ, suc, ◌+◌, ◌*◌, ◌^◌, ◌<◌, ◌≤◌, List, [], ◌∷◌, length, slice_index, refl, sym, ap, ◌∙◌, add_comm, arith, inl, inr}
use Rattle.std.proofs.lemmas.Bool.{cases_lt}
use Rattle.std.proofs.lemmas.Nat.{mul-add-lt, mul-le, pow-add}
use Rattle.std.proofs.Math.Nat.{pow-le-pow_right}
use Rattle.der_core.specs.Head.{IsOctets, number_from}
use Rattle.asn1_types.specs.Integer.{IsInteger, number_of, IsUnsignedInteger}

tail_IsOctets : (octet : ℕ) (octets : List ℕ) → IsOctets (octet ∷ octets) → IsOctets octets
tail_IsOctets octet octets fit = λ i. fit (suc i)

wider : (n : ℕ) → 256 ^ suc n ≡ 256 * 256 ^ n
wider n = omega (arith, pow-add 256 1 n, add_comm 1 n, ap (λ k. 256 ^ k) (add_comm 1 n))

-- Each octet counts as a power of 256 by the number of octets after it.
abbrev positional : List ℕ → ℕ
positional [] = 0
positional (octet ∷ octets) = octet * 256 ^ length octets + positional octets

spread : (n octet w : ℕ) → (n * 256 + octet) * w ≡ n * (256 * w) + octet * w
spread n octet w = grind arith

positional_from : (n : ℕ) (octets : List ℕ) → number_from n octets ≡ n * 256 ^ length octets + positional octets
positional_from n [] = omega arith
positional_from n (octet ∷ octets) =
    let w = 256 ^ length octets in
    positional_from (n * 256 + octet) octets
    ∙ omega (arith, spread n octet w, ap (λ x. n * x) (wider (length octets)))

positional_is : (octets : List ℕ) → number_of octets ≡ positional octets
positional_is octets = positional_from 0 octets ∙ omega arith

-- A number is below 256 to the number of its octets.
below : (octets : List ℕ) → IsOctets octets → positional octets < 256 ^ length octets
below [] fit = omega arith
below (octet ∷ octets) fit =
    let rest : positional octets < 256 ^ length octets = below octets (tail_IsOctets octet octets fit) in
    let one : octet < 256 = fit 0 in
    omega (arith, wider (length octets), mul-add-lt octet (256 ^ length octets) (positional octets) 256 one rest)

digits_are : (a b m n w : ℕ) → m < w → n < w → a * w + m ≡ b * w + n → (a ≡ b) × (m ≡ n)
digits_are a b m n w small small' e =
    let first : a ≡ b =
    elim (cases_lt a b) [
      | inl lt ↦ absurd (omega (arith, mul-add-lt a w m b lt small))
      | inr ge ↦ elim (cases_lt b a) [
        | inl lt ↦ absurd (omega (arith, mul-add-lt b w n a lt small'))
        | inr le ↦ omega arith
      ]
    ] in
    (first, omega (arith, ap (λ d. d * w) first))

-- Equally many octets that encode the same number are the same.
same_octets : (a b : List ℕ) → IsOctets a → IsOctets b → length a ≡ length b → positional a ≡ positional b → a ≡ b
same_octets [] [] fit fit' many e = refl
same_octets [] (y ∷ ys) fit fit' many e = absurd (omega arith)
same_octets (x ∷ xs) [] fit fit' many e = absurd (omega arith)
same_octets (x ∷ xs) (y ∷ ys) fit fit' many e =
    let as_many : length xs ≡ length ys = omega arith in
    let width : 256 ^ length xs ≡ 256 ^ length ys = ap (λ n. 256 ^ n) as_many in
    let fits = tail_IsOctets x xs fit in
    let fits' = tail_IsOctets y ys fit' in
    let parts = digits_are x y (positional xs) (positional ys) (256 ^ length ys) (omega (arith, below xs fits)) (below ys fits')
    (ap (λ w. x * w + positional xs) (sym width) ∙ e) in
    ap (λ d. d ∷ xs) parts.0 ∙ ap (λ ds. y ∷ ds) (same_octets xs ys fits fits' as_many parts.1)

-- The first nine bits aren't all 0, so the number has at least one bit among them.
at_least : (first second : ℕ) (octets : List ℕ) → ¬ ((first ≡ 0) × (second < 128)) → 128 * 256 ^ length octets ≤ positional (first ∷ second ∷ octets)
at_least first second octets not_zeros =
    elim (cases_lt second 128) [
      | inl low ↦ elim (cases_lt 0 first) [
        | inl some ↦ omega (arith, wider (length octets), mul-le 1 (256 ^ suc (length octets)) first (256 ^ suc (length octets)) some (omega arith))
        | inr none ↦ absurd (not_zeros (omega arith, low))
      ]
      | inr high ↦ omega (arith, mul-le 128 (256 ^ length octets) second (256 ^ length octets) high (omega arith))
    ]

-- Octets whose first bit is 0 encode a number of so few bits.
at_most : (octet : ℕ) (octets : List ℕ) → IsOctets (octet ∷ octets) → octet < 128 → positional (octet ∷ octets) < 128 * 256 ^ length octets
at_most octet octets fit low =
    omega (arith, mul-add-lt octet (256 ^ length octets) (positional octets) 128 low (below octets (tail_IsOctets octet octets fit)))

pub none_shorter : (number : ℕ) (a b : List ℕ) → IsOctets b → IsUnsignedInteger number a → IsInteger b → slice_index b 0 < 128 → number_of b ≡ number
    → length a ≤ length b
none_shorter number a [] fit unsigned some low e = absurd (some refl)
none_shorter number [] (octet ∷ octets) fit unsigned some low e = absurd unsigned.shortest
none_shorter number (x ∷ []) (octet ∷ octets) fit unsigned some low e = omega arith
none_shorter number (x ∷ y ∷ more) (octet ∷ octets) fit unsigned some low e =
    elim (cases_lt (length octets) (suc (length more))) [
      | inl fewer ↦
          let widths : 256 ^ length octets ≤ 256 ^ length more = pow-le-pow_right (omega arith) (omega arith) in
          absurd (omega (
            arith,
            widths,
            at_least x y more unsigned.shortest.0,
            at_most octet octets fit low,
            sym (positional_is (x ∷ y ∷ more)) ∙ unsigned.same_number,
            sym (positional_is (octet ∷ octets)) ∙ e,
          ))
      | inr enough ↦ omega arith
    ]

IsInteger-IsUnsignedInteger : (number : ℕ) (contents : List ℕ) → IsUnsignedInteger number contents → IsInteger contents
IsInteger-IsUnsignedInteger number [] unsigned = absurd unsigned.shortest
IsInteger-IsUnsignedInteger number (octet ∷ octets) unsigned = λ e. absurd (omega (arith, ap length e))

pub one_shortest : (number : ℕ) (a b : List ℕ) → IsOctets a → IsOctets b → IsUnsignedInteger number a → IsUnsignedInteger number b → a ≡ b
one_shortest number a b fit fit' unsigned unsigned' =
    let forth = none_shorter number a b fit' unsigned (IsInteger-IsUnsignedInteger number b unsigned') unsigned'.not_negative unsigned'.same_number in
    let back = none_shorter number b a fit unsigned' (IsInteger-IsUnsignedInteger number a unsigned) unsigned.not_negative unsigned.same_number in
    same_octets a b fit fit' (omega arith) (sym (positional_is a) ∙ unsigned.same_number ∙ sym unsigned'.same_number ∙ positional_is b)
