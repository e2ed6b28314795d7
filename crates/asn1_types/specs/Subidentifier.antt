-- Subidentifiers, the parts of the contents octets of an OBJECT IDENTIFIER (X.690 8.19.2).
use Rattle.std.specs.Prelude.{◌≡◌, ◌≢◌, ℕ, ◌+◌, ◌/◌, ◌%◌, ◌^◌, ◌<◌, List, [], ◌∷◌, ◌++◌, map}
use Rattle.std.specs.Int.Digits.{digits_of}

-- The numbers that a subidentifier may encode here. X.690 sets no limit; this library reads 128
-- bits.
abbrev pub IsSubidentifier : ℕ → Type 0
IsSubidentifier number = number < 2 ^ 128

-- The octets before the last one: the digits of a number in base 128, the most significant first
-- and without leading zeros, each with bit 8 set.
abbrev pub leading_octets : ℕ → List ℕ
leading_octets number = map (λ digit. 128 + digit) (digits_of 128 number)

-- The octets of a subidentifier: all digits of the number in base 128, bit 8 set in all but the
-- last.
unfoldable pub subidentifier : ℕ → List ℕ
subidentifier number = leading_octets (number / 128) ++ (number % 128 ∷ [])

-- The octets begin with a subidentifier, and these follow.
pub record BeginsWithSubidentifier (octets after : List ℕ) : Type 0 where
  pub number : ℕ
  pub bounded : IsSubidentifier number
  pub spelled : octets ≡ subidentifier number ++ after

-- The octets don't begin with a subidentifier.
abbrev pub BeginsWithNoSubidentifier : List ℕ → Type 0
BeginsWithNoSubidentifier octets =
    (number : ℕ) (after : List ℕ) → IsSubidentifier number → octets ≢ subidentifier number ++ after
