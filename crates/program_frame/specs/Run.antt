-- What a run of a program does: its status, its cause, and the contents of the sink after it.
use Rattle.std.specs.Prelude.{◌≡◌, ◌≢◌, ◌⊎◌, ◌↔◌, ℕ, ◌≤◌, List, ◌∷◌, ◌++◌, length, IsSome}
use Rattle.der_core.specs.Counts.{FailsOnce, HasRisen}
use Rattle.program_frame.specs.Commands.{Line, Program, AnswersRead, AsksForNothing, FindsBadText, ForCommand, HasBadText, IsAnswered}
use Rattle.program_frame.specs.Limits.{IsLongFile, IsMissingFile, HasFiles, HasLongFile}
use Rattle.program_frame.specs.ReadFiles.{FindsLongFile, HandsOutAtMost}
use Rattle.program_frame.specs.Shelf.{ShelfState}
use Rattle.program_frame.specs.Sink.{SinkState, Appends, Keeps, HasRoom, IsCutShort, KeepsCapacity}
use Rattle.program_frame.specs.Statuses as statuses

-- The line is the answer about the files that were read.
abbrev pub IsRunAnswer : {Command : Type 0} → Program Command → (words : List (List ℕ))
    → (shelf shelf_now : ShelfState) → Line → Type 0
IsRunAnswer program words shelf shelf_now line =
    ForCommand program words (λ command. AnswersRead program shelf shelf_now command line)

-- An answer with this status is reported: if the sink exposes its contents, exactly its line has
-- been appended.
pub record IsDelivered {Command : Type 0} (program : Program Command) (words : List (List ℕ))
    (shelf shelf_now : ShelfState) (out out_now : SinkState) (status : ℕ) : Type 0 where
  pub line : Line
  pub is_answer : IsRunAnswer program words shelf shelf_now line
  pub is_status : line.status ≡ status
  pub has_line : Appends out.held line.text out_now.held

-- An answer had a line that the sink didn't accept whole. It accepted a prefix of the line, and its
-- fault count rose.
pub record IsLost {Command : Type 0} (program : Program Command) (words : List (List ℕ))
    (shelf shelf_now : ShelfState) (out out_now : SinkState) : Type 0 where
  pub line : Line
  pub is_answer : IsRunAnswer program words shelf shelf_now line
  pub cut_short : IsCutShort line.text out out_now
  pub has_risen : HasRisen out.faults out_now.faults

-- the sink exposes no room for the line
abbrev pub LacksRoom : SinkState → Line → Type 0
LacksRoom out line = HasRoom out.room (length line.text) → ⊥

-- A run on words: a shelf before and after it, by its observable state, a sink before and after it,
-- and a status.
pub record IsRun {Command S : Type 0} (program : Program Command) (words : List (List ℕ))
    (state : S → ShelfState) (shelf shelf_now : S) (out out_now : SinkState)
    (status : ℕ) : Type 0 where
  -- there is no other status
  pub bounded : status ≤ statuses.out_of_memory
  -- an acceptance or a refusal is the answer, and its line is reported
  pub reported : status ≤ statuses.refused
      → IsDelivered program words (state shelf) (state shelf_now) out out_now status
  -- the words are no command, even when memory runs out
  pub usage : (status ≡ statuses.usage) ↔ AsksForNothing program words
  -- nothing is read then
  pub unread : AsksForNothing program words → shelf_now ≡ shelf
  -- a text has a bad line, and all files were read
  pub bad_table : status ≡ statuses.bad_table
      → ForCommand program words (FindsBadText program (state shelf) (state shelf_now))
  pub bad_table_always : (command : Command) → program.AsksFor words command
      → (state shelf).is_quiet → IsSome (state shelf).files
      → HasBadText program (state shelf).files command
      → (status ≡ statuses.bad_table) ⊎ (status ≡ statuses.out_of_memory)
  -- the shelf failed
  pub shelf_failed : status ≡ statuses.shelf_failed
      → HasRisen (state shelf).faults (state shelf_now).faults
  pub shelf_quiet : (command : Command) → program.AsksFor words command → (state shelf).is_quiet
      → HasFiles (state shelf).files (program.files_of command) → status ≢ statuses.shelf_failed
  -- a missing file is a failure of the shelf, unless an earlier one is too long
  pub missing : (command : Command) (ahead behind : List (List ℕ)) (name : List ℕ)
      → program.AsksFor words command → program.files_of command ≡ ahead ++ name ∷ behind
      → IsMissingFile (state shelf).files name
      → ((status ≡ statuses.shelf_failed) ⊎ (status ≡ statuses.out_of_memory))
      ⊎ ((status ≡ statuses.too_long) × HasLongFile (state shelf).files ahead)
  -- the sink accepted a part of the line
  pub sink_failed : status ≡ statuses.sink_failed
      → IsLost program words (state shelf) (state shelf_now) out out_now
  -- a file is too long
  pub too_long : status ≡ statuses.too_long → ForCommand program words
      (λ command. FindsLongFile (state shelf) (state shelf_now) (program.files_of command))
  -- A file that is too long ends the run that way, unless the shelf fails; a quiet shelf that has
  -- the earlier files doesn't.
  pub too_long_always : (command : Command) (ahead behind : List (List ℕ)) (name : List ℕ)
      → program.AsksFor words command → program.files_of command ≡ ahead ++ name ∷ behind
      → IsLongFile (state shelf).files name
      → ((status ≡ statuses.too_long) ⊎ (status ≡ statuses.out_of_memory))
      ⊎ ((status ≡ statuses.shelf_failed)
      × ((state shelf).is_quiet → HasFiles (state shelf).files ahead → ⊥))
  -- whatever the status, no more is read than one octet more than the longest file for each file of
  -- the command
  pub at_most : (command : Command) → program.AsksFor words command
      → HandsOutAtMost (length (program.files_of command)) (state shelf) (state shelf_now)
  -- a failed call of the shelf or of the sink is the last one, and the status reports it
  pub shelf_once : FailsOnce (status ≡ statuses.shelf_failed)
      (state shelf).faults (state shelf_now).faults
  pub sink_once : FailsOnce (status ≡ statuses.sink_failed) out.faults out_now.faults
  -- without a report nothing is written
  pub nothing_written : statuses.usage ≤ status → status ≢ statuses.sink_failed
      → Keeps out.held out_now.held
  -- whatever the status, what the sink lost in room is what it gained in contents
  pub capacity : KeepsCapacity out out_now
  -- If a quiet shelf exposes its files, the answer about them is reported by its line, as an
  -- acceptance or a refusal, unless memory runs out, or a sink fails that exposes no room for it.
  pub answered : (command : Command) (line : Line) → program.AsksFor words command
      → (state shelf).is_quiet → IsSome (state shelf).files
      → IsAnswered program (state shelf).files command line
      → (((status ≡ line.status) × (status ≤ statuses.refused)
      × Appends out.held line.text out_now.held)
      ⊎ (status ≡ statuses.out_of_memory))
      ⊎ ((status ≡ statuses.sink_failed) × HasRisen out.faults out_now.faults
      × LacksRoom out line)
