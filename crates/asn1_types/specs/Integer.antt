-- The contents octets of an INTEGER (X.690 8.3).
use Rattle.std.specs.Prelude.{◌≡◌, ◌≢◌, ℕ, ◌<◌, ◌≤◌, ◌==◌, if◌then◌else◌, List, [], ◌∷◌, slice_index}
use Rattle.der_core.specs.Head.{number_from}

-- An INTEGER has at least one contents octet (X.690 8.3.1). Contents longer than the number needs
-- stay as they are: X.690 8.3.2 isn't required.
abbrev pub IsInteger : List ℕ → Type 0
IsInteger contents = contents ≢ []

-- The number that octets encode, the most significant first.
abbrev pub number_of : List ℕ → ℕ
number_of octets = number_from 0 octets

-- In the shortest contents the first nine bits are neither all 0 nor all 1 (X.690 8.3.2).
abbrev pub IsShortest : List ℕ → Type 0
IsShortest [] = ⊥
IsShortest (octet ∷ []) = Unit {0}
IsShortest (first ∷ second ∷ octets) =
    ¬ ((first ≡ 0) × (second < 128)) × ¬ ((first ≡ 255) × (128 ≤ second))

-- The shortest contents of a non-negative number: the first bit, the sign, is 0 (X.690 8.3.3).
pub record IsUnsignedInteger (number : ℕ) (contents : List ℕ) : Type 0 where
  pub shortest : IsShortest contents
  pub not_negative : slice_index contents 0 < 128
  pub same_number : number_of contents ≡ number

-- the contents without a leading zero octet, unless it is the only one
abbrev pub unsigned_octets : List ℕ → List ℕ
unsigned_octets [] = []
unsigned_octets (octet ∷ []) = octet ∷ []
unsigned_octets (first ∷ second ∷ octets) =
    if first == 0 then second ∷ octets else first ∷ second ∷ octets
