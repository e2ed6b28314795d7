-- Files whose octets are borrowed.
use Rattle.std.specs.Prelude.{◌≡◌, ℕ, List, [], ◌∷◌, Option, Some, None, if◌then◌else◌, bytes_eq}
use Rattle.std.specs.Borrow.{Bor}
use Rattle.program_frame.specs.Shelf.{Files}
use Rattle.door_frame.specs.declared.files.LentFile.{LentFile}

-- the file with this name; of two, the first
abbrev pub lent_files : List LentFile → Files
lent_files [] name = None
lent_files (file ∷ others) name =
    if bytes_eq file.name.now name then Some file.octets.now else lent_files others name

-- the borrowed files are these, if there was memory for them
abbrev pub AreLent : Option (Bor (List LentFile)) → Files → Type 0
AreLent None files = Unit {0}
AreLent (Some lent) files = (name : List ℕ) → lent_files lent.now name ≡ files name
