-- What a shelf over readers exposes.
use Rattle.std.specs.Prelude.{ℕ, List, Option, Some, None, IsSome}
use Rattle.program_frame.specs.Shelf.{Files, IsPicked}

-- If the files are exposed, the reader has the whole file with this name to read.
abbrev pub IsOpened : Option Files → List ℕ → Option (List ℕ) → Type 0
IsOpened files name remaining = IsSome files → IsPicked files name remaining

-- the octets left in the reader of the picked file, if the files are exposed
abbrev pub unread_rest : Option Files → Option (Option (List ℕ)) → Option (List ℕ)
unread_rest (Some files) (Some remaining) = remaining
unread_rest files reader = None
