-- The option `--list` of `check`: a trust list, and when the signer's CA must be on it.
use Rattle.std.specs.Prelude.{ℕ, ℤ, List, [], ◌∷◌, Option, Some, None, pos}

-- the name of the file with the list, and the moment, in seconds since 1601-01-01, UTC
pub record AskedList : Type 0 where
  pub file : List ℕ
  pub seconds : ℤ

-- the name of the file, if there is one
abbrev pub list_files : Option AskedList → List (List ℕ)
list_files None = []
list_files (Some list) = list.file ∷ []

-- the moment, 0 without a list
abbrev pub list_moment : Option AskedList → ℤ
list_moment None = pos 0
list_moment (Some list) = list.seconds
