-- The words of a command, by their texts.
use Rattle.std.proofs.Common.{◌≡◌, ℕ, ◌+◌, ◌-◌, ◌≤◌, List, ◌∷◌, length, get_or, take, drop, map, Some, sym, subst, arith}
use Rattle.std.proofs.lemmas.List.{take_all}
use Rattle.asn1_types.specs.declared.generalized_time.GeneralizedTime.{GeneralizedTime}
use Rattle.program_frame.specs.DateWord.{IsDateWord}
use Rattle.program_frame.specs.Commands.{AsksForNothing}
use Rattle.trust_anchors.specs.Commands.{program}
use Rattle.trust_anchors.specs.Words.{AsksFor, IsNumberWord, Command, purpose_word}
use Rattle.trust_anchors.specs.declared.anchor.Purpose.{Purpose}

-- the words after the first four, as in the code
abbrev pub behind_four : {W : Type 0} → List W → List W
behind_four words = take (length words - 4) (drop 4 words)

pub four_words : {W : Type 0} (text : W → List ℕ) (words : List W) (t p d n : W) (table purpose date number : List ℕ) → 4 ≤ length words
    → t ≡ get_or words 0 t → p ≡ get_or words 1 p → d ≡ get_or words 2 d → n ≡ get_or words 3 n
    → text t ≡ table → text p ≡ purpose → text d ≡ date → text n ≡ number
    → map text words ≡ table ∷ purpose ∷ date ∷ number ∷ map text (behind_four words)
four_words text (w0 ∷ w1 ∷ w2 ∷ w3 ∷ words) t p d n table purpose date number some is0 is1 is2 is3 said0 said1 said2 said3 =
    let all = take_all (length (w0 ∷ w1 ∷ w2 ∷ w3 ∷ words) - 4) words (omega arith) in
    cc
four_words text words t p d n table purpose date number some is0 is1 is2 is3 said0 said1 said2 said3 = absurd (omega arith)

module _ (table purpose_text date_text number_text : List ℕ) (certificates : List (List ℕ)) where
  -- words of a command
  abbrev Words : List (List ℕ)
  Words = table ∷ purpose_text ∷ date_text ∷ number_text ∷ certificates

  same_purpose : (t p d n : List ℕ) (cs : List (List ℕ)) → Words ≡ t ∷ p ∷ d ∷ n ∷ cs → purpose_text ≡ p
  same_purpose t p d n cs are = cc

  same_date : (t p d n : List ℕ) (cs : List (List ℕ)) → Words ≡ t ∷ p ∷ d ∷ n ∷ cs → date_text ≡ d
  same_date t p d n cs are = cc

  same_number : (t p d n : List ℕ) (cs : List (List ℕ)) → Words ≡ t ∷ p ∷ d ∷ n ∷ cs → number_text ≡ n
  same_number t p d n cs are = cc

  same_certificates : (t p d n : List ℕ) (cs : List (List ℕ)) → Words ≡ t ∷ p ∷ d ∷ n ∷ cs → certificates ≡ cs
  same_certificates t p d n cs are = cc

  number_in : (command : Command) → AsksFor Words command → IsNumberWord number_text command.number
  number_in command asked =
      subst (λ (w : List ℕ). IsNumberWord w command.number)
      (sym (same_number command.table (purpose_word command.purpose) asked.date_word asked.number_word command.certificates asked.words_are)) asked.number_is

  date_in : (command : Command) → AsksFor Words command → IsDateWord date_text command.date
  date_in command asked =
      subst (λ (w : List ℕ). IsDateWord w command.date)
      (sym (same_date command.table (purpose_word command.purpose) asked.date_word asked.number_word command.certificates asked.words_are)) asked.date_is

  -- without a number they are no command
  pub no_number : ((number : ℕ) → IsNumberWord number_text number → ⊥) → AsksForNothing program Words
  no_number none command asked = none command.number (number_in command asked)

  -- they request one command
  pub only_command : (purpose : Purpose) (date : GeneralizedTime) (number : ℕ) → ((p : Purpose) → purpose_text ≡ purpose_word p → Some purpose ≡ Some p)
      → ((d : GeneralizedTime) → IsDateWord date_text d → Some date ≡ Some d) → ((n : ℕ) → IsNumberWord number_text n → Some number ≡ Some n)
      → (more : ℕ) → more + 1 ≡ number → (command : Command) → AsksFor Words command
      → Some (record { table = table; purpose = purpose; date = date; number = more + 1; certificates = certificates }) ≡ Some command
  only_command purpose date number purposes dates numbers more is command asked =
      let are = asked.words_are in
      let same_table : table ≡ command.table = (cc) in
      let one_purpose : purpose ≡ command.purpose = (let one =
      purposes command.purpose (same_purpose command.table (purpose_word command.purpose) asked.date_word asked.number_word command.certificates are) in cc) in
      let one_date : date ≡ command.date = (let one = dates command.date (date_in command asked) in cc) in
      let one_number : more + 1 ≡ command.number = (let one = numbers command.number (number_in command asked) in cc) in
      let one_list : certificates ≡ command.certificates =
      same_certificates command.table (purpose_word command.purpose) asked.date_word asked.number_word command.certificates are in
      λ i. Some (record { table = same_table i; purpose = one_purpose i; date = one_date i; number = one_number i; certificates = one_list i })
