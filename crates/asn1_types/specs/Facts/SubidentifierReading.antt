-- Subidentifiers parse unambiguously: bit 8 says where each ends, and its octets encode one number.
use Rattle.std.specs.Prelude.{◌≡◌, ◌≢◌, ℕ, zero, suc, ◌+◌, ◌-◌, ◌*◌, ◌/◌, ◌%◌, ◌<◌, ◌≤◌, cond, true, false, Option, Some, None, List, [], ◌∷◌, ◌++◌, map, refl}
use Rattle.std.proofs.Common.{ltb, sym, ap, ap₂, ◌∙◌, append_assoc, arith}
use Rattle.std.proofs.lemmas.Bool.{lt-ltb, le-ltb}
use Rattle.std.proofs.lemmas.Int.Digits.{digits_of_step}
use Rattle.std.proofs.lemmas.List.{map-append}
use Rattle.std.specs.List.{flat_map}
use Rattle.std.specs.Int.Digits.{digits_of}
use Rattle.asn1_types.specs.Subidentifier.{leading_octets, subidentifier}

-- What is read from octets after the leading octets of a number: the number of the subidentifier,
-- and the octets after it.
abbrev pub read_after : ℕ → List ℕ → Option (ℕ × List ℕ)
read_after number [] = None
read_after number (octet ∷ rest) =
    cond (ltb octet 128) (Some (number * 128 + octet, rest)) (read_after (number * 128 + (octet - 128)) rest)

-- The last of the leading octets.
pub leading_step : (number : ℕ) → 0 < number
    → leading_octets number ≡ leading_octets (number / 128) ++ ((128 + number % 128) ∷ [])
leading_step number positive =
    ap (map (λ digit. 128 + digit)) (digits_of_step 128 number (omega arith) positive)
    ∙ map-append (λ digit. 128 + digit) (digits_of 128 (number / 128)) (number % 128 ∷ [])

read_leading_by : (bound number : ℕ) (rest : List ℕ) → number ≤ bound
    → read_after 0 (leading_octets number ++ rest) ≡ read_after number rest
read_leading_by zero zero rest le = refl
read_leading_by zero (suc n) rest le = absurd (omega arith)
read_leading_by (suc bound) zero rest le = refl
read_leading_by (suc bound) (suc n) rest le =
    let number = suc n in
    let high : ltb (128 + number % 128) 128 ≡ false = le-ltb _ _ (omega arith) in
    let whole : number / 128 * 128 + (128 + number % 128 - 128) ≡ number = omega arith in
    ap (λ octets. read_after 0 (octets ++ rest)) (leading_step number (omega arith))
    ∙ ap (read_after 0) (append_assoc (leading_octets (number / 128)) ((128 + number % 128) ∷ []) rest)
    ∙ read_leading_by bound (number / 128) ((128 + number % 128) ∷ rest) (omega arith)
    ∙ ap (λ t. cond t (Some (number / 128 * 128 + (128 + number % 128), rest)) (read_after (number / 128 * 128 + (128 + number % 128 - 128)) rest)) high
    ∙ ap (λ n. read_after n rest) whole

-- Leading octets are read as their number.
pub read_leading : (number : ℕ) (rest : List ℕ)
    → read_after 0 (leading_octets number ++ rest) ≡ read_after number rest
read_leading number rest = read_leading_by number number rest (omega arith)

-- A subidentifier is read as its number, and what follows it is left.
pub read_subidentifier : (number : ℕ) (rest : List ℕ)
    → read_after 0 (subidentifier number ++ rest) ≡ Some (number, rest)
unfolding subidentifier
read_subidentifier number rest =
    let low : ltb (number % 128) 128 ≡ true = lt-ltb _ _ (omega arith) in
    let whole : number / 128 * 128 + number % 128 ≡ number = omega arith in
    ap (read_after 0) (append_assoc (leading_octets (number / 128)) (number % 128 ∷ []) rest)
    ∙ read_leading (number / 128) (number % 128 ∷ rest)
    ∙ ap (λ t. cond t (Some (number / 128 * 128 + number % 128, rest)) (read_after (number / 128 * 128 + (number % 128 - 128)) rest)) low
    ∙ ap (λ n. Some (n, rest)) whole

-- Octets begin with at most one subidentifier.
pub subidentifier_once : (m n : ℕ) (x y : List ℕ)
    → subidentifier m ++ x ≡ subidentifier n ++ y → (m ≡ n) × (x ≡ y)
subidentifier_once m n x y e =
    let same = sym (read_subidentifier m x) ∙ ap (read_after 0) e ∙ read_subidentifier n y in
    let number : Option (ℕ × List ℕ) → ℕ = λ r. elim r [ None ↦ 0 | Some p ↦ p.0 ] in
    let rest : Option (ℕ × List ℕ) → List ℕ = λ r. elim r [ None ↦ [] | Some p ↦ p.1 ] in
    (ap number same, ap rest same)

-- A subidentifier has octets.
pub subidentifier_some : (n : ℕ) (x : List ℕ) → subidentifier n ++ x ≢ []
subidentifier_some n x e = let same = sym (read_subidentifier n x) ∙ ap (read_after 0) e in cc

-- Octets encode at most one list of subidentifiers.
pub subidentifiers_once : (ms ns : List ℕ) → flat_map subidentifier ms ≡ flat_map subidentifier ns → ms ≡ ns
subidentifiers_once [] [] e = refl
subidentifiers_once [] (n ∷ ns) e = absurd (subidentifier_some n (flat_map subidentifier ns) (sym e))
subidentifiers_once (m ∷ ms) [] e = absurd (subidentifier_some m (flat_map subidentifier ms) e)
subidentifiers_once (m ∷ ms) (n ∷ ns) e =
    let one = subidentifier_once m n (flat_map subidentifier ms) (flat_map subidentifier ns) e in
    ap₂ (λ h t. h ∷ t) one.0 (subidentifiers_once ms ns one.1)
