-- The words of the command line.
use Rattle.std.specs.Prelude.{◌≡◌, ℕ, List, ◌∷◌}
use Rattle.asn1_types.specs.declared.generalized_time.GeneralizedTime.{GeneralizedTime}
use Rattle.program_frame.specs.DateWord.{IsDateWord}
use Rattle.program_frame.specs.ListOption.{list_files}
use Rattle.program_frame.specs.Options.{AreOptions, CheckOptions}

-- A check of the program in FILE: its signature, which TABLE accepts, and the signer's certificate
-- with those of its issuers, at DATE, except for what the options leave out; and its CA on a trust
-- list, if they name one.
pub record Command : Type 0 where
  pub file : List ℕ
  pub table : List ℕ
  pub date : GeneralizedTime
  pub options : CheckOptions

-- the names of its files, in the order of reading
abbrev pub files_of : Command → List (List ℕ)
files_of command = command.file ∷ command.table ∷ list_files command.options.list

-- The words request this command: FILE TABLE DATE, then options.
pub record AsksFor (words : List (List ℕ)) (command : Command) : Type 0 where
  pub date_word : List ℕ
  pub option_words : List (List ℕ)
  pub words_are : words ≡ command.file ∷ command.table ∷ date_word ∷ option_words
  pub date_is : IsDateWord date_word command.date
  pub options_are : AreOptions option_words command.options
