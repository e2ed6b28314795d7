-- The files of a call on a signature, and what its acceptance means.
use Rattle.std.specs.Prelude.{ℕ, List, Option, Some, None, if◌then◌else◌, bytes_eq, codes}
use Rattle.door_frame.specs.Call.{IsAcceptedCall}
use Rattle.picky_check.specs.Vouched.{IsVouched}
use Rattle.program_frame.specs.Shelf.{Files}

-- the files SIG, LIST and, if there is a table, TABLE
abbrev pub check_files : (signature : List ℕ) → (table : Option (List ℕ)) → (list : List ℕ) → Files
check_files signature table list name =
    if bytes_eq (codes "SIG") name then Some signature
    else if bytes_eq (codes "LIST") name then Some list
    else if bytes_eq (codes "TABLE") name then table else None

-- What the words name among these files is vouched for, and the line says so.
abbrev pub IsVouchedCall : (text : List ℕ) → Files → (line : List ℕ) → Type 0
IsVouchedCall text files line = IsAcceptedCall IsVouched text files line
