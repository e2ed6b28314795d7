-- The commands of the command line.
use Rattle.std.specs.Prelude.{◌≡◌, ◌≤◌, ℕ, List, [], ◌∷◌, length, Option, Some, None, Result, Ok, Err, nat_le, ◌&&◌, if◌then◌else◌, codes}
use Rattle.hex.specs.Hex.{decode_of}
use Rattle.hex.specs.declared.error.FromHexError.{FromHexError}
use Rattle.asn1_types.specs.declared.generalized_time.GeneralizedTime.{GeneralizedTime}
use Rattle.program_frame.specs.DateWord.{IsDateWord}
use Rattle.program_frame.specs.ListOption.{list_files}
use Rattle.program_frame.specs.Options.{AreOptions, CheckOptions}

-- a command, with its arguments
pub data Command : Type 0 where
  -- the form of the file SIG, its digest HASH, and its signature, which TABLE accepts
  Basic : (signature table hash : List ℕ) → Command
  -- the same, and the signer's certificate with those of its issuers, at DATE, except for what the
  -- options leave out; and its CA on a trust list, if they name one
  Check : (signature table hash : List ℕ) → (date : GeneralizedTime) → (options : CheckOptions)
      → Command
  -- the first of the files CERT with the others as its parents, at DATE, by the signatures that
  -- TABLE accepts
  Chain : (table : List ℕ) → (date : GeneralizedTime) → (certificates : List (List ℕ)) → Command

-- the names of its files, in the order of reading
abbrev pub files_of : Command → List (List ℕ)
files_of (Basic signature table hash) = signature ∷ table ∷ []
files_of (Check signature table hash date options) =
    signature ∷ table ∷ list_files options.list
files_of (Chain table date certificates) = table ∷ certificates

-- these octets, if there are 1 to 64
abbrev pub sized : Result (List ℕ) FromHexError → Option (List ℕ)
sized (Ok octets) =
    if nat_le 1 (length octets) && nat_le (length octets) 64 then Some octets else None
sized (Err e) = None

-- HASH: 1 to 64 octets in hexadecimal, digits of either case
abbrev pub asked_hash : List ℕ → Option (List ℕ)
asked_hash word = sized (decode_of word)

-- basic SIG TABLE HASH
pub record IsBasic (words : List (List ℕ)) (signature table hash : List ℕ) : Type 0 where
  pub word : List ℕ
  pub words_are : words ≡ codes "basic" ∷ signature ∷ table ∷ word ∷ []
  pub hash_is : asked_hash word ≡ Some hash

-- check SIG TABLE HASH DATE, then options
pub record IsCheck (words : List (List ℕ)) (signature table hash : List ℕ) (date : GeneralizedTime)
    (options : CheckOptions) : Type 0 where
  pub word : List ℕ
  pub date_word : List ℕ
  pub option_words : List (List ℕ)
  pub words_are : words ≡ codes "check" ∷ signature ∷ table ∷ word ∷ date_word ∷ option_words
  pub hash_is : asked_hash word ≡ Some hash
  pub date_is : IsDateWord date_word date
  pub options_are : AreOptions option_words options

-- chain TABLE DATE CERT .., with 1 to 32 files CERT
pub record IsChain (words : List (List ℕ)) (table : List ℕ) (date : GeneralizedTime)
    (certificates : List (List ℕ)) : Type 0 where
  pub word : List ℕ
  pub words_are : words ≡ codes "chain" ∷ table ∷ word ∷ certificates
  pub date_is : IsDateWord word date
  pub some : 1 ≤ length certificates
  pub most : length certificates ≤ 32

-- The table of commands: the words request this command.
abbrev pub AsksFor : List (List ℕ) → Command → Type 0
AsksFor words (Basic signature table hash) = IsBasic words signature table hash
AsksFor words (Check signature table hash date options) =
    IsCheck words signature table hash date options
AsksFor words (Chain table date certificates) = IsChain words table date certificates
