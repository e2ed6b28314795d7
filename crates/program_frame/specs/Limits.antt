-- The maximal length of a file, and whether a file with a name exists.
use Rattle.std.specs.Prelude.{ℕ, List, ◌≡◌, ◌<◌, ◌≤◌, length, Option, Some, None, IsSome, All, Any}
use Rattle.std.specs.List.{AllZip}
use Rattle.program_frame.specs.Shelf.{Files, file_of}

-- the length of the longest file that is read: 16 MiB
abbrev pub longest_file : ℕ
longest_file = 16777216

-- These octets are the whole file with this name, as far as the shelf exposes its files.
pub record IsWholeFile (files : Option Files) (name octets : List ℕ) : Type 0 where
  pub as_exposed : IsSome files → file_of files name ≡ Some octets
  pub short : length octets ≤ longest_file

-- The shelf exposes a file with this name that is too long.
abbrev pub IsLongFile : Option Files → List ℕ → Type 0
IsLongFile files name = (file : List ℕ) × (file_of files name ≡ Some file)
    × (longest_file < length file)

-- The shelf exposes its files, and none has this name.
pub record IsMissingFile (files : Option Files) (name : List ℕ) : Type 0 where
  pub exposed : IsSome files
  pub none : file_of files name ≡ None

-- ---- several files, in order

-- these are the whole files with these names
abbrev pub AreWholeFiles : Option Files → (names contents : List (List ℕ)) → Type 0
AreWholeFiles files names contents = AllZip (IsWholeFile files) names contents

-- the shelf exposes each of them
abbrev pub HasFiles : Option Files → List (List ℕ) → Type 0
HasFiles files names = All (λ name. IsSome (file_of files name)) names

-- one of them is too long
abbrev pub HasLongFile : Option Files → List (List ℕ) → Type 0
HasLongFile files names = Any (IsLongFile files) names
