-- What it means to parse a verdict table for many calls.
use Rattle.std.specs.Prelude.{◌≡◌, ◌⊎◌, ℕ, List, Option, Some}
use Rattle.door_frame.specs.Handle.{text_of}
use Rattle.program_frame.specs.Statuses as statuses
use Rattle.sig_core.specs.VerdictTable.{IsFirstBadLine, IsTable}
use Rattle.sig_core.specs.declared.verdict_row.VerdictRow.{VerdictRow}

-- A text is parsed into a handle: the table that the handle has before and after it, and a status.
pub record IsParsing (text : List ℕ) (known known_now : Option (List ℕ × List VerdictRow))
    (status : ℕ) : Type 0 where
  -- there is no other status
  pub bounded : (status ≡ statuses.accepted) ⊎ ((status ≡ statuses.bad_table)
      ⊎ (status ≡ statuses.out_of_memory))
  -- the handle has the table of this text
  pub parsed : status ≡ statuses.accepted → text_of known_now ≡ Some text
  -- the text has a bad line
  pub bad_table : status ≡ statuses.bad_table → (number : ℕ) × IsFirstBadLine text number
  -- else the handle has the table that it had
  pub kept : (status ≡ statuses.accepted → ⊥) → known_now ≡ known
  -- a table is parsed
  pub each_table : (rows : List VerdictRow) → IsTable text rows
      → (status ≡ statuses.accepted) ⊎ (status ≡ statuses.out_of_memory)
  -- a text with a bad line is refused
  pub each_bad_line : (number : ℕ) → IsFirstBadLine text number
      → (status ≡ statuses.bad_table) ⊎ (status ≡ statuses.out_of_memory)
