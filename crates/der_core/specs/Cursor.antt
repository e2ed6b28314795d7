-- Borrowed octets, read element by element.
use Rattle.std.specs.Prelude.{◌≡◌, ℕ, ◌+◌, ◌-◌, ◌≤◌, ◌<◌, List, ◌++◌, length}
use Rattle.der_core.specs.DerElement.{DerElement}
use Rattle.der_core.specs.Encoding.{nesting, most_levels}
use Rattle.der_core.specs.Reading.{IsFirst, HasElementsWithin}

-- The first n octets are the encoding of an element that is read at this level: all levels around
-- it and in it together are at most `most_levels`.
pub record BeginsAt (level : ℕ) (octets : List ℕ) (element : DerElement) (n : ℕ) : Type 0 where
  pub first : IsFirst octets element n
  pub nested : nesting element + level ≤ most_levels + 1

-- An element is taken off the octets that are left, and the offset moves past it.
pub record MovesPast (whole rest rest_now : List ℕ) (place place_now : ℕ) : Type 0 where
  pub gone : rest ≡ whole ++ rest_now
  pub placed : place_now ≡ place + length whole

-- Octets past the first level were tested as the contents of an element: they are elements of one
-- level less than the most.
abbrev pub WereTested : ℕ → List ℕ → Type 0
WereTested level octets = 1 < level → HasElementsWithin (most_levels - 1) octets
