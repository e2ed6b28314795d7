-- The words of the command line.
use Rattle.std.specs.Prelude.{◌≡◌, ℕ, List, [], ◌∷◌}
use Rattle.asn1_types.specs.declared.generalized_time.GeneralizedTime.{GeneralizedTime}
use Rattle.program_frame.specs.DateWord.{IsDateWord}

-- how many certificates of a register are accepted at a date
pub record Command : Type 0 where
  -- the file FILE, the text of the register
  pub file : List ℕ
  pub date : GeneralizedTime

-- FILE DATE
pub record AsksFor (words : List (List ℕ)) (command : Command) : Type 0 where
  pub date_word : List ℕ
  pub words_are : words ≡ command.file ∷ date_word ∷ []
  pub date_is : IsDateWord date_word command.date
