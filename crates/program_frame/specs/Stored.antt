-- Files that are stored by name.
use Rattle.std.specs.Prelude.{ℕ, List, [], ◌∷◌, Option, Some, None, option_map, if◌then◌else◌, bytes_eq, string_bytes, slice_get}
use Rattle.std.specs.Option.{option_or}
use Rattle.program_frame.specs.declared.stored.StoredFile.{StoredFile}

-- the octets of a stored file
abbrev pub octets_of : StoredFile → List ℕ
octets_of file = file.octets.items

-- the file with this name; of two, the one that was added later
abbrev pub latest_file : List StoredFile → List ℕ → Option (List ℕ)
latest_file [] name = None
latest_file (file ∷ later) name =
    option_or (latest_file later name)
    (if bytes_eq (string_bytes file.name) name then Some (octets_of file) else None)

-- the octets of the file at this index
abbrev pub found_at : List StoredFile → Option ℕ → Option (List ℕ)
found_at files (Some place) = option_map octets_of (slice_get files place)
found_at files None = None

-- no octets where there are none
abbrev pub or_empty : Option (List ℕ) → List ℕ
or_empty (Some octets) = octets
or_empty None = []

-- the octets of the file at the index, none if none is picked
abbrev pub octets_at : List StoredFile → Option ℕ → List ℕ
octets_at files picked = or_empty (found_at files picked)
