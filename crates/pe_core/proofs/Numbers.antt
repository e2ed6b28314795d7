-- The octets at an offset, one by one.
use Rattle.std.proofs.Common.{◌≡◌, ℕ, ◌+◌, ◌-◌, ◌≤◌, List, [], ◌∷◌, length, take, drop, get_or, slice_range, refl, sym, ap, ◌∙◌, arith, length-drop}
use Rattle.std.proofs.Math.Seq.{take-length}

-- a part up to the end is what is left
pub left_of : (xs : List ℕ) (offset : ℕ) → slice_range xs offset (length xs) ≡ drop offset xs
left_of xs offset =
    ap (λ (n : ℕ). take n (drop offset xs)) (sym (length-drop offset xs)) ∙ take-length (drop offset xs)

first_two : (ys : List ℕ) → 2 ≤ length ys → take 2 ys ≡ get_or ys 0 0 ∷ get_or ys 1 0 ∷ []
first_two (a ∷ b ∷ rest) enough = refl
first_two _ enough = absurd (omega arith)

first_four : (ys : List ℕ) → 4 ≤ length ys
    → take 4 ys ≡ get_or ys 0 0 ∷ get_or ys 1 0 ∷ get_or ys 2 0 ∷ get_or ys 3 0 ∷ []
first_four (a ∷ b ∷ c ∷ d ∷ rest) enough = refl
first_four _ enough = absurd (omega arith)

-- the octets of a number, read from what is left
pub two_at : (xs ys : List ℕ) (offset : ℕ) → ys ≡ slice_range xs offset (length xs) → 2 ≤ length ys
    → slice_range xs offset (offset + 2) ≡ get_or ys 0 0 ∷ get_or ys 1 0 ∷ []
two_at xs ys offset is enough =
    let two : (offset + 2) - offset ≡ 2 = omega arith in
    ap (λ (n : ℕ). take n (drop offset xs)) two ∙ ap (take 2) (sym (is ∙ left_of xs offset)) ∙ first_two ys enough

pub four_at : (xs ys : List ℕ) (offset : ℕ) → ys ≡ slice_range xs offset (length xs) → 4 ≤ length ys
    → slice_range xs offset (offset + 4) ≡ get_or ys 0 0 ∷ get_or ys 1 0 ∷ get_or ys 2 0 ∷ get_or ys 3 0 ∷ []
four_at xs ys offset is enough =
    let four : (offset + 4) - offset ≡ 4 = omega arith in
    ap (λ (n : ℕ). take n (drop offset xs)) four ∙ ap (take 4) (sym (is ∙ left_of xs offset)) ∙ first_four ys enough
