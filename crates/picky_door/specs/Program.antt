-- The files of a call on a signed program, and what its acceptance means.
use Rattle.std.specs.Prelude.{ℕ, List, Option, Some, None, if◌then◌else◌, bytes_eq, codes}
use Rattle.door_frame.specs.Call.{IsAcceptedCall}
use Rattle.pe_image.specs.Vouched.{IsVouchedProgram}
use Rattle.program_frame.specs.Shelf.{Files}

-- the files PROGRAM, LIST and, if there is a table, TABLE
abbrev pub program_files : (program : List ℕ) → (table : Option (List ℕ)) → (list : List ℕ) → Files
program_files program table list name =
    if bytes_eq (codes "PROGRAM") name then Some program
    else if bytes_eq (codes "LIST") name then Some list
    else if bytes_eq (codes "TABLE") name then table else None

-- What the words name among these files is vouched for, and the line says so.
abbrev pub IsVouchedProgramCall : (text : List ℕ) → Files → (line : List ℕ) → Type 0
IsVouchedProgramCall text files line = IsAcceptedCall IsVouchedProgram text files line
