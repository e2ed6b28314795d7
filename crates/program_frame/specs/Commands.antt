-- A program's commands, their files, and their answers.
use Rattle.std.specs.Prelude.{◌≡◌, ℕ, List, Option, Some, option_map, Result, Ok, Err, IfOk, IsErr, MatchOption}
use Rattle.program_frame.specs.Limits.{AreWholeFiles}
use Rattle.program_frame.specs.ReadFiles.{HandsOut, total_length}
use Rattle.program_frame.specs.Shelf.{Files, ShelfState}

-- the line that is an answer, and the status of a run that reports it
pub record Line : Type 0 where
  pub status : ℕ
  pub text : List ℕ

-- A program: which command the words of its command line request, the files of its commands, and
-- their answers.
pub record Program (Command : Type 0) : Type 1 where
  -- the words request this command
  pub AsksFor : (words : List (List ℕ)) → Command → Type 0
  -- the names of its files, in the order of reading
  pub files_of : Command → List (List ℕ)
  -- in these contents of its files a text has a bad line
  pub HasBadLine : Command → (contents : List (List ℕ)) → Type 0
  -- on these contents of its files this line is the answer
  pub IsAnswer : Command → (contents : List (List ℕ)) → Line → Type 0
  -- what else holds once this line is reported
  pub Promises : Command → (contents : List (List ℕ)) → Line → Type 0

-- ---- words

-- the words request no command
abbrev pub AsksForNothing : {Command : Type 0} → Program Command → (words : List (List ℕ)) → Type 0
AsksForNothing {Command} program words = (command : Command) → program.AsksFor words command → ⊥

-- the words request a command that satisfies this
abbrev pub ForCommand : {Command : Type 0} → Program Command → (words : List (List ℕ))
    → (Command → Type 0) → Type 0
ForCommand {Command} program words Holds =
    (command : Command) × program.AsksFor words command × Holds command

-- What a parser of the words must find.
pub record IsParsed {Command E : Type 0} (program : Program Command) (words : List (List ℕ))
    (parsed : Result (Option Command) E) : Type 0 where
  -- a command that the words request, or nothing if they request none
  pub asked : IfOk parsed (λ found. MatchOption found (AsksForNothing program words)
      (program.AsksFor words))
  -- it is the only one
  pub only : (command : Command) → program.AsksFor words command
      → IfOk parsed (λ found. found ≡ Some command)
  -- memory runs out only for the words of a command
  pub memory : IsErr parsed → (command : Command) × program.AsksFor words command

-- what was parsed, if the commands are stored in this way
abbrev pub parsed_held : {Held Command E : Type 0} → (Held → Command) → Result (Option Held) E
    → Result (Option Command) E
parsed_held asked (Ok found) = Ok (option_map asked found)
parsed_held asked (Err e) = Err e

-- ---- answers

-- The line is the answer. The contents are those of the command's files, as far as the shelf exposes
-- its files.
pub record IsAnswered {Command : Type 0} (program : Program Command) (files : Option Files)
    (command : Command) (line : Line) : Type 0 where
  pub contents : List (List ℕ)
  pub are_files : AreWholeFiles files (program.files_of command) contents
  pub is_answer : program.IsAnswer command contents line

-- A text among the files has a bad line: they are the command's files, as far as the shelf exposes
-- its files.
pub record HasBadText {Command : Type 0} (program : Program Command) (files : Option Files)
    (command : Command) : Type 0 where
  pub contents : List (List ℕ)
  pub are_files : AreWholeFiles files (program.files_of command) contents
  pub bad_line : program.HasBadLine command contents

-- ---- where exactly the octets of the files were handed out

-- The line is the answer, for files that were read, and holds what the program promises.
pub record AnswersRead {Command : Type 0} (program : Program Command) (before after : ShelfState)
    (command : Command) (line : Line) : Type 0 where
  pub is_answered : IsAnswered program before.files command line
  pub given : HandsOut (total_length is_answered.contents) before after
  pub promised : program.Promises command is_answered.contents line

-- A text with a bad line, among files that were read.
pub record FindsBadText {Command : Type 0} (program : Program Command) (before after : ShelfState)
    (command : Command) : Type 0 where
  pub has_bad_text : HasBadText program before.files command
  pub given : HandsOut (total_length has_bad_text.contents) before after
