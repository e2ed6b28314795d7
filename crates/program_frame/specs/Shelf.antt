-- The observable state of a shelf, and what its calls do.
use Rattle.std.specs.Prelude.{ℕ, List, [], ◌≡◌, ◌<◌, ◌≤◌, length, take, drop, Option, Some, None}

-- the files by name
abbrev pub Files : Type 0
Files = List ℕ → Option (List ℕ)

-- The observable state of a shelf at one moment.
pub record ShelfState : Type 1 where
  -- its files by name, if it exposes them
  pub files : Option Files
  -- the octets left to read of the picked file, if it exposes them
  pub rest : Option (List ℕ)
  -- the number of octets handed out
  pub given : ℕ
  -- the number of faults
  pub faults : ℕ
  -- from now on it fails only for a missing name
  pub is_quiet : Type 0

-- the file with this name, if the shelf exposes its files and has it
abbrev pub file_of : Option Files → List ℕ → Option (List ℕ)
file_of (Some files) name = files name
file_of None name = None

-- the file with this name is exactly what is left to read
abbrev pub IsPicked : Option Files → List ℕ → Option (List ℕ) → Type 0
IsPicked files name rest = (file : List ℕ) × (file_of files name ≡ Some file) × (rest ≡ Some file)

-- n octets were moved: the first of those that were left, to the start of the piece
pub record Moves (n : ℕ) (before piece : List ℕ) (after : Option (List ℕ)) : Type 0 where
  pub within : n ≤ length before
  pub front : take n piece ≡ take n before
  pub rest : after ≡ Some (drop n before)
  -- none for a nonempty piece only at the end
  pub none : n ≡ 0 → 0 < length piece → before ≡ []
