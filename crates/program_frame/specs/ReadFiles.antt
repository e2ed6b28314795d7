-- Reading several files, in order, or why they aren't all read.
use Rattle.std.specs.Prelude.{◌≡◌, ◌≢◌, ℕ, ◌+◌, ◌*◌, ◌≤◌, List, ◌∷◌, ◌++◌, length, sum_by, IsSome}
use Rattle.der_core.specs.Counts.{GoesOn, HasRisen, RisesBy}
use Rattle.program_frame.specs.declared.error.FileError.{FileError}
use Rattle.program_frame.specs.declared.error.FileError.TheVariants as file
use Rattle.program_frame.specs.Limits.{longest_file, IsLongFile, IsMissingFile, AreWholeFiles, HasFiles, HasLongFile}
use Rattle.program_frame.specs.Shelf.{ShelfState}

-- the total length of the files
abbrev pub total_length : List (List ℕ) → ℕ
total_length contents = sum_by (λ octets. length octets) contents

-- Exactly this many octets were handed out.
abbrev pub HandsOut : (number : ℕ) (before after : ShelfState) → Type 0
HandsOut number before after = RisesBy number before.given after.given

-- Of this many files together, at most one octet more than the longest file has was handed out for
-- each.
abbrev pub HandsOutAtMost : (files : ℕ) (before after : ShelfState) → Type 0
HandsOutAtMost files before after = after.given ≤ before.given + files * (longest_file + 1)

-- These are the whole files with these names, as far as the shelf exposes its files, and exactly as
-- many octets as they have together were handed out.
pub record AreRead (before after : ShelfState) (names contents : List (List ℕ)) : Type 0 where
  pub are_files : AreWholeFiles before.files names contents
  pub given : HandsOut (total_length contents) before after

-- One of the files is too long, as far as the shelf exposes its files. Exactly as many octets were
-- handed out as the earlier files have together, and one more than the limit.
pub record FindsLongFile (before after : ShelfState) (names : List (List ℕ)) : Type 0 where
  pub ahead : List (List ℕ)
  pub name : List ℕ
  pub behind : List (List ℕ)
  pub names_are : names ≡ ahead ++ name ∷ behind
  pub contents : List (List ℕ)
  pub are_files : AreWholeFiles before.files ahead contents
  pub is_long : IsSome before.files → IsLongFile before.files name
  pub given : HandsOut (total_length contents + (longest_file + 1)) before after
  -- so the count rose by more than the longest file has, or is at its maximum
  pub counted : GoesOn before.given after.given

-- Why the files with these names weren't all read.
pub record AreUnread (before after : ShelfState) (names : List (List ℕ))
    (e : FileError) : Type 0 where
  -- the shelf failed
  pub failed : e ≡ file.Fault → HasRisen before.faults after.faults
  -- A quiet shelf that has all of them, or all before one that is too long, doesn't fail.
  pub quiet : before.is_quiet → HasFiles before.files names → e ≢ file.Fault
  pub long : (ahead behind : List (List ℕ)) (name : List ℕ) → names ≡ ahead ++ name ∷ behind
      → IsLongFile before.files name → before.is_quiet → HasFiles before.files ahead
      → e ≢ file.Fault
  pub too_long : e ≡ file.TooLong → FindsLongFile before after names
  -- if one is missing, the later ones aren't read
  pub missing : (ahead behind : List (List ℕ)) (name : List ℕ) → names ≡ ahead ++ name ∷ behind
      → IsMissingFile before.files name → e ≡ file.TooLong → HasLongFile before.files ahead
