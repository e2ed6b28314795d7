-- The words of the command line that request a demonstration.
use Rattle.std.specs.Prelude.{◌≡◌, ◌≢◌, ◌≤◌, ℕ, List, [], ◌∷◌, codes, slice_index}
use Rattle.std.specs.Str.Parse.{IsNumeral, digits_value}

-- N: decimal digits for a number from 1 to 200, without leading zeros
pub record IsCountWord (word : List ℕ) (count : ℕ) : Type 0 where
  pub digits : IsNumeral 10 word
  pub value : count ≡ digits_value 10 word
  pub no_zero : slice_index word 0 ≢ 0x30
  pub most : count ≤ 200

-- demo N
pub record AsksFor (words : List (List ℕ)) (count : ℕ) : Type 0 where
  pub word : List ℕ
  pub words_are : words ≡ codes "demo" ∷ word ∷ []
  pub count_is : IsCountWord word count

-- the words request no demonstration
abbrev pub AsksForNothing : List (List ℕ) → Type 0
AsksForNothing words = (count : ℕ) → AsksFor words count → ⊥
