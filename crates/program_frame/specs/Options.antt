-- The options of `check`, after its DATE.
use Rattle.std.specs.Prelude.{◌≡◌, ⊤, Bool, ℕ, List, [], ◌∷◌, Option, Some, None, true, false, codes}
use Rattle.asn1_types.specs.declared.generalized_time.GeneralizedTime.{GeneralizedTime}
use Rattle.program_frame.specs.DateWord.{IsDateWord}
use Rattle.program_frame.specs.ListOption.{AskedList}
use Rattle.program_frame.specs.SecondsWord.{IsSecondsWord}

-- an option
pub data CheckOption : Type 0 where
  -- --until DATE
  Until : GeneralizedTime → CheckOption
  -- --no-before, --no-after, --no-chain
  NoBefore : CheckOption
  NoAfter : CheckOption
  NoChain : CheckOption
  -- --list FILE SECONDS
  TrustList : AskedList → CheckOption

-- the options that are given
pub record CheckOptions : Type 0 where
  pub until : Option GeneralizedTime
  pub no_before : Bool
  pub no_after : Bool
  pub no_chain : Bool
  pub list : Option AskedList

-- The words begin with an option, and these follow it. The words after `--until` and `--list` are
-- taken literally.
abbrev pub BeginsWithOption : CheckOption → (words rest : List (List ℕ)) → Type 0
BeginsWithOption (Until date) words rest =
    (word : List ℕ) × (words ≡ codes "--until" ∷ word ∷ rest) × IsDateWord word date
BeginsWithOption NoBefore words rest = words ≡ codes "--no-before" ∷ rest
BeginsWithOption NoAfter words rest = words ≡ codes "--no-after" ∷ rest
BeginsWithOption NoChain words rest = words ≡ codes "--no-chain" ∷ rest
BeginsWithOption (TrustList list) words rest =
    (word : List ℕ) × (words ≡ codes "--list" ∷ list.file ∷ word ∷ rest)
    × IsSecondsWord word list.seconds

-- the words are these options, one after another
abbrev pub AreWordsOf : List CheckOption → List (List ℕ) → Type 0
AreWordsOf [] words = words ≡ []
AreWordsOf (option ∷ others) words =
    (rest : List (List ℕ)) × BeginsWithOption option words rest × AreWordsOf others rest

-- ---- which options are given

-- no option is given
abbrev pub no_options : CheckOptions
no_options = record {
  until = None;
  no_before = false;
  no_after = false;
  no_chain = false;
  list = None;
}

-- one more option is given
abbrev pub with_option : CheckOption → CheckOptions → CheckOptions
with_option (Until date) o = record o { until = Some date }
with_option NoBefore o = record o { no_before = true }
with_option NoAfter o = record o { no_after = true }
with_option NoChain o = record o { no_chain = true }
with_option (TrustList list) o = record o { list = Some list }

-- these options are given, in whatever order
abbrev pub with_options : List CheckOption → CheckOptions
with_options [] = no_options
with_options (option ∷ others) = with_option option (with_options others)

-- the option isn't given, with whatever date or list
abbrev pub IsAbsent : CheckOption → CheckOptions → Type 0
IsAbsent (Until date) o = o.until ≡ None
IsAbsent NoBefore o = o.no_before ≡ false
IsAbsent NoAfter o = o.no_after ≡ false
IsAbsent NoChain o = o.no_chain ≡ false
IsAbsent (TrustList list) o = o.list ≡ None

-- each is given at most once: it isn't among the later ones
abbrev pub AreOnce : List CheckOption → Type 0
AreOnce [] = ⊤
AreOnce (option ∷ others) = IsAbsent option (with_options others) × AreOnce others

-- The words are options in any order, each at most once, and these are given.
pub record AreOptions (words : List (List ℕ)) (o : CheckOptions) : Type 0 where
  pub options : List CheckOption
  pub are_words : AreWordsOf options words
  pub once : AreOnce options
  pub is : o ≡ with_options options
