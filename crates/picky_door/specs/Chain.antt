-- The files of a call on a chain of certificates.
use Rattle.std.specs.Prelude.{ℕ, List, Option, None, if◌then◌else◌, bytes_eq, codes}
use Rattle.std.specs.Option.{option_or}
use Rattle.door_frame.specs.Pool.{pooled_files}
use Rattle.program_frame.specs.Shelf.{Files}

-- the files of a pool, and the file TABLE, if there is a table
abbrev pub chain_files : (table : Option (List ℕ)) → (pool lengths : List ℕ) → Files
chain_files table pool lengths name =
    option_or (pooled_files pool lengths name)
    (if bytes_eq (codes "TABLE") name then table else None)
