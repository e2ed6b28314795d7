-- The words of the command line, by their texts.
use Rattle.std.proofs.Common.{◌≡◌, ◌≢◌, ℕ, Bool, true, false, List, [], ◌∷◌, length, Option, Some}
use Rattle.std.proofs.Common.{None, MatchOption, option_map, refl, sym, ap, subst, ◌∙◌, arith}
use Rattle.std.specs.Str.{bytes_eq}
use Rattle.std.proofs.lemmas.Bool.{false≢true}
use Rattle.std.proofs.lemmas.Slice.Eq.{bytes_eq-Decides}
use Rattle.program_frame.specs.Commands.{AsksForNothing}
use Rattle.signature_questions.specs.Commands.{program}
use Rattle.signature_questions.specs.OwnedCommand.{command_held}
use Rattle.signature_questions.specs.Words.{AreInLimits, AsksFor, Command, OfChain, OfSignature, chain_word}
use Rattle.signature_questions.specs.declared.command.Command.{Command as HeldCommand}

-- the test for the option
pub option_is : (word : List ℕ) (test : Bool) → test ≡ bytes_eq word chain_word → test ≡ true → word ≡ chain_word
option_is word test is holds = (bytes_eq-Decides word chain_word).0 (sym is ∙ holds)

pub option_other : (word : List ℕ) (test : Bool) → test ≡ bytes_eq word chain_word → test ≡ false → word ≢ chain_word
option_other word test is fails = λ same. false≢true (sym fails ∙ is ∙ (bytes_eq-Decides word chain_word).1 same)

-- no words are no command
pub no_words : AsksForNothing program []
no_words (OfSignature file) asked = absurd (let are = asked.words_are in cc)
no_words (OfChain certificates) asked = absurd (let are = asked.words_are in cc)

first_is : (x y : List ℕ) (xs ys : List (List ℕ)) → x ∷ xs ≡ y ∷ ys → x ≡ y
first_is x y xs ys are = cc

others_are : (x y : List ℕ) (xs ys : List (List ℕ)) → x ∷ xs ≡ y ∷ ys → xs ≡ ys
others_are x y xs ys are = cc

module _ (words : List (List ℕ)) (first : List ℕ) (others : List (List ℕ)) (are : words ≡ first ∷ others) where
  module _ (option : first ≡ chain_word) where
    chain_asked : AreInLimits others → AsksFor words (OfChain others)
    chain_asked limits = record { words_are = are ∙ ap (λ (word : List ℕ). word ∷ others) option; limits = limits }

    no_signature_word : (file : List ℕ) → AsksFor words (OfSignature file) → ⊥
    no_signature_word file asked = asked.other (first_is file first [] others (sym asked.words_are ∙ are) ∙ option)

    certificates_are : (certificates : List (List ℕ)) → AsksFor words (OfChain certificates) → certificates ≡ others
    certificates_are certificates asked = others_are chain_word first certificates others (sym asked.words_are ∙ are)

    no_chain : (AreInLimits others → ⊥) → AsksForNothing program words
    no_chain none (OfSignature file) asked = no_signature_word file asked
    no_chain none (OfChain certificates) asked = none (subst AreInLimits (certificates_are certificates asked) asked.limits)

    only_chain : (command : Command) → AsksFor words command → OfChain others ≡ command
    only_chain (OfSignature file) asked = absurd (no_signature_word file asked)
    only_chain (OfChain certificates) asked = ap OfChain (sym (certificates_are certificates asked))

    -- whether a chain is found or none
    pub chain_answers : (r : Option HeldCommand) → MatchOption r (AreInLimits others → ⊥) (λ held. (command_held held ≡ OfChain others) × AreInLimits others)
        → MatchOption r (AsksForNothing program words) (λ held. AsksFor words (command_held held))
    chain_answers None none = no_chain none
    chain_answers (Some held) (is, limits) = subst (λ (command : Command). AsksFor words command) (sym is) (chain_asked limits)

    pub chain_only : (r : Option HeldCommand) → MatchOption r (AreInLimits others → ⊥) (λ held. (command_held held ≡ OfChain others) × AreInLimits others)
        → (command : Command) → AsksFor words command → option_map command_held r ≡ Some command
    chain_only None none command asked = absurd (no_chain none command asked)
    chain_only (Some held) (is, limits) command asked = ap (λ (c : Command). Some c) (is ∙ only_chain command asked)

  module _ (other : first ≢ chain_word) where
    no_option : (certificates : List (List ℕ)) → AsksFor words (OfChain certificates) → ⊥
    no_option certificates asked = other (sym (first_is chain_word first certificates others (sym asked.words_are ∙ are)))

    -- a file and more words
    pub no_file : length others ≢ 0 → AsksForNothing program words
    no_file more (OfSignature file) asked = more (ap length (sym (others_are file first [] others (sym asked.words_are ∙ are))))
    no_file more (OfChain certificates) asked = no_option certificates asked

    none_left : (xs : List (List ℕ)) → length xs ≡ 0 → xs ≡ []
    none_left [] none = refl
    none_left (x ∷ xs) none = absurd (omega (arith, none))

    -- a file alone
    pub file_asked : length others ≡ 0 → AsksFor words (OfSignature first)
    file_asked none = record { words_are = are ∙ ap (λ (xs : List (List ℕ)). first ∷ xs) (none_left others none); other = other }

    pub only_file : (command : Command) → AsksFor words command → Some (OfSignature first) ≡ Some command
    only_file (OfSignature file) asked = ap (λ (f : List ℕ). Some (OfSignature f)) (sym (first_is file first [] others (sym asked.words_are ∙ are)))
    only_file (OfChain certificates) asked = absurd (no_option certificates asked)
