-- What a call over octets does: a run of a program, without shelf and sink.
use Rattle.std.specs.Prelude.{⊤, ◌≡◌, ◌⊎◌, ℕ, ◌<◌, ◌≤◌, List, [], ◌∷◌, ◌++◌, length, Option, Some, None}
use Rattle.std.specs.Str.{IsUtf8}
use Rattle.program_frame.specs.Limits.{HasFiles, HasLongFile, IsLongFile}
use Rattle.program_frame.specs.Commands.{Line, Program, AsksForNothing, ForCommand, HasBadText, IsAnswered}
use Rattle.program_frame.specs.Shelf.{Files, ShelfState}
use Rattle.program_frame.specs.Sink.{SinkState}
use Rattle.program_frame.specs.Statuses as statuses
use Rattle.door_frame.specs.Words.{lines_of}

-- A call on words and files, with a buffer of this much room: its line, and its status.
pub record IsCall {Command : Type 0} (program : Program Command) (words : List (List ℕ))
    (files : Files) (room : ℕ) (line : List ℕ) (status : ℕ) : Type 0 where
  -- there is no other status
  pub bounded : status ≤ statuses.out_of_memory
  -- an acceptance or a refusal is the answer about these files, and this is its line
  pub reported : status ≤ statuses.refused → ForCommand program words (λ command.
      IsAnswered program (Some files) command (record { status = status; text = line }))
  -- the words are no command
  pub usage : status ≡ statuses.usage → AsksForNothing program words
  pub usage_always : AsksForNothing program words
      → (status ≡ statuses.usage) ⊎ (status ≡ statuses.out_of_memory)
  -- a text has a bad line
  pub bad_table : status ≡ statuses.bad_table
      → ForCommand program words (HasBadText program (Some files))
  pub bad_table_always : (command : Command) → program.AsksFor words command
      → HasBadText program (Some files) command
      → (status ≡ statuses.bad_table) ⊎ (status ≡ statuses.out_of_memory)
  -- a file isn't there
  pub no_file : status ≡ statuses.shelf_failed → (command : Command)
      → program.AsksFor words command → HasFiles (Some files) (program.files_of command) → ⊥
  -- a missing file has this status, unless an earlier one is too long
  pub missing : (command : Command) (ahead behind : List (List ℕ)) (name : List ℕ)
      → program.AsksFor words command → program.files_of command ≡ ahead ++ name ∷ behind
      → files name ≡ None
      → ((status ≡ statuses.shelf_failed) ⊎ (status ≡ statuses.out_of_memory))
      ⊎ ((status ≡ statuses.too_long) × HasLongFile (Some files) ahead)
  -- the line of the answer is longer than the buffer
  pub no_room : status ≡ statuses.sink_failed → (answer : Line)
      × ForCommand program words (λ command. IsAnswered program (Some files) command answer)
      × (room < length answer.text)
  -- a file is too long
  pub too_long : status ≡ statuses.too_long → ForCommand program words
      (λ command. HasLongFile (Some files) (program.files_of command))
  -- a file that is too long has this status, unless an earlier one is missing
  pub too_long_always : (command : Command) (ahead behind : List (List ℕ)) (name : List ℕ)
      → program.AsksFor words command → program.files_of command ≡ ahead ++ name ∷ behind
      → IsLongFile (Some files) name
      → ((status ≡ statuses.too_long) ⊎ (status ≡ statuses.out_of_memory))
      ⊎ ((status ≡ statuses.shelf_failed) × (HasFiles (Some files) ahead → ⊥))
  -- without an answer there is no line
  pub no_line : statuses.usage ≤ status → line ≡ []
  -- the answer about the files is reported, unless memory runs out or its line is longer than the
  -- buffer
  pub answered : (command : Command) (answer : Line) → program.AsksFor words command
      → IsAnswered program (Some files) command answer
      → (((status ≡ answer.status) × (line ≡ answer.text)) ⊎ (status ≡ statuses.out_of_memory))
      ⊎ ((status ≡ statuses.sink_failed) × (room < length answer.text))

-- A call with words in one text, a word a line. Of a text that isn't UTF-8 nothing is read.
pub record IsCallOf {Command : Type 0} (program : Program Command) (text : List ℕ) (files : Files)
    (room : ℕ) (line : List ℕ) (status : ℕ) : Type 0 where
  pub call : IsUtf8 text → IsCall program (lines_of text) files room line status
  pub no_words : (IsUtf8 text → ⊥) → (status ≡ statuses.usage) × (line ≡ [])

-- ---- the shelf of a call

-- the state of a shelf of borrowed files, which fails only for a missing name
abbrev pub lent_shelf : (files : Files) → (rest : List ℕ) → (given faults : ℕ) → ShelfState
lent_shelf files rest given faults = record {
  files = Some files;
  rest = Some rest;
  given = given;
  faults = faults;
  is_quiet = ⊤;
}

-- the same where none is read
abbrev pub unread_files : Files → ShelfState
unread_files files = lent_shelf files [] 0 0

-- the state of an empty sink with this much room
abbrev pub empty_sink : ℕ → SinkState
empty_sink room = record { held = Some []; room = Some room; faults = 0 }

-- This holds for some state of a shelf of borrowed files, after a run.
pub record ForShelf (Holds : ShelfState → Type 0) : Type 0 where
  pub files : Files
  pub rest : List ℕ
  pub given : ℕ
  pub faults : ℕ
  pub holds : Holds (lent_shelf files rest given faults)

-- What acceptance of a call means, if it means this of a run.
abbrev pub IsAcceptedCall : (Acceptance : (words : List (List ℕ)) → (shelf shelf_now : ShelfState)
    → (held held_now : Option (List ℕ)) → Type 0) → (text : List ℕ) → Files → (line : List ℕ) → Type 0
IsAcceptedCall Acceptance text files line = ForShelf (λ shelf_now.
    Acceptance (lines_of text) (unread_files files) shelf_now (Some []) (Some line))
