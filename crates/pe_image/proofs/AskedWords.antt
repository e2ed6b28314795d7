-- The words of the command line, by their texts.
use Rattle.std.proofs.Common.{◌≡◌, ℕ, ◌-◌, ◌≤◌, List, ◌∷◌, length, get_or, take, drop, map, Some, refl, sym, subst, arith}
use Rattle.std.proofs.lemmas.List.{take_all}
use Rattle.asn1_types.specs.declared.generalized_time.GeneralizedTime.{GeneralizedTime}
use Rattle.program_frame.specs.DateWord.{IsDateWord}
use Rattle.program_frame.specs.Options.{AreOptions, CheckOptions}
use Rattle.program_frame.specs.Commands.{AsksForNothing}
use Rattle.pe_image.specs.Commands.{program}
use Rattle.pe_image.specs.Words.{AsksFor, Command}

-- the words after the first three, as in the code
abbrev pub behind_three : {W : Type 0} → List W → List W
behind_three words = take (length words - 3) (drop 3 words)

pub command_words : {W : Type 0} (text : W → List ℕ) (words : List W) (f t d : W) (file table date : List ℕ) → 3 ≤ length words
    → f ≡ get_or words 0 f → t ≡ get_or words 1 t → d ≡ get_or words 2 d
    → text f ≡ file → text t ≡ table → text d ≡ date
    → map text words ≡ file ∷ table ∷ date ∷ map text (behind_three words)
command_words text (w0 ∷ w1 ∷ w2 ∷ words) f t d file table date some is0 is1 is2 said0 said1 said2 =
    let all = take_all (length (w0 ∷ w1 ∷ w2 ∷ words) - 3) words (omega arith) in
    cc
command_words text words f t d file table date some is0 is1 is2 said0 said1 said2 = absurd (omega arith)

module _ (file table date_word : List ℕ) (option_words : List (List ℕ)) where
  abbrev Words : List (List ℕ)
  Words = file ∷ table ∷ date_word ∷ option_words

  same_option_words : (f t d : List ℕ) (os : List (List ℕ)) → Words ≡ f ∷ t ∷ d ∷ os → option_words ≡ os
  same_option_words f t d os are = cc

  same_date_word : (f t d : List ℕ) (os : List (List ℕ)) → Words ≡ f ∷ t ∷ d ∷ os → date_word ≡ d
  same_date_word f t d os are = cc

  options_in : (command : Command) → AsksFor Words command → AreOptions option_words command.options
  options_in command asked =
      subst (λ (os : List (List ℕ)). AreOptions os command.options)
      (sym (same_option_words command.file command.table asked.date_word asked.option_words asked.words_are)) asked.options_are

  date_in : (command : Command) → AsksFor Words command → IsDateWord date_word command.date
  date_in command asked =
      subst (λ (w : List ℕ). IsDateWord w command.date) (sym (same_date_word command.file command.table asked.date_word asked.option_words asked.words_are))
      asked.date_is

  -- if those after it are no options, they request nothing
  pub no_options : ((o : CheckOptions) → AreOptions option_words o → ⊥) → AsksForNothing program Words
  no_options none command asked = none command.options (options_in command asked)

  module _ (date : GeneralizedTime) (options : CheckOptions) where
    abbrev pub command_in : Command
    command_in = record { file = file; table = table; date = date; options = options }

    pub asks : IsDateWord date_word date → AreOptions option_words options → AsksFor Words command_in
    asks date_is options_are = record {
      date_word = date_word;
      option_words = option_words;
      words_are = refl;
      date_is = date_is;
      options_are = options_are;
    }

    -- they request one command
    pub only_command : ((d : GeneralizedTime) → IsDateWord date_word d → Some date ≡ Some d)
        → ((o : CheckOptions) → AreOptions option_words o → Some options ≡ Some o)
        → (command : Command) → AsksFor Words command → Some command_in ≡ Some command
    only_command dates all command asked =
        let same_file : file ≡ command.file = (let are = asked.words_are in cc) in
        let same_table : table ≡ command.table = (let are = asked.words_are in cc) in
        let same_date : date ≡ command.date = (let one = dates command.date (date_in command asked) in cc) in
        let same_options : options ≡ command.options = (let one = all command.options (options_in command asked) in cc) in
        λ i. Some (record { file = same_file i; table = same_table i; date = same_date i; options = same_options i })
