-- The word SECONDS: 1 to 18 decimal digits.
use Rattle.std.specs.Prelude.{◌≡◌, ◌≤◌, ℕ, ℤ, List, length, pos}
use Rattle.std.specs.Str.Parse.{IsNumeral, digits_value}

-- the word is this number in decimal digits; leading zeros are allowed
pub record IsSecondsWord (word : List ℕ) (seconds : ℤ) : Type 0 where
  pub digits : IsNumeral 10 word
  pub short : length word ≤ 18
  pub value : seconds ≡ pos (digits_value 10 word)
