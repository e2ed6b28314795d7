-- The words of the command line.
use Rattle.std.specs.Prelude.{◌≡◌, ◌≢◌, ◌≤◌, ℕ, List, [], ◌∷◌, length, codes}

-- a command
pub data Command : Type 0 where
  -- the questions about the file SIG
  OfSignature : (file : List ℕ) → Command
  -- the questions about the files CERT as a chain, the first of them with the others as its parents
  OfChain : (certificates : List (List ℕ)) → Command

-- the names of its files, in the order of reading
abbrev pub files_of : Command → List (List ℕ)
files_of (OfSignature file) = file ∷ []
files_of (OfChain certificates) = certificates

-- the option before the files of a chain
abbrev pub chain_word : List ℕ
chain_word = codes "--chain"

-- SIG, which isn't the option
pub record IsSignature (words : List (List ℕ)) (file : List ℕ) : Type 0 where
  pub words_are : words ≡ file ∷ []
  pub other : file ≢ chain_word

-- 1 to 32 files
abbrev pub AreInLimits : List (List ℕ) → Type 0
AreInLimits certificates = (1 ≤ length certificates) × (length certificates ≤ 32)

-- --chain CERT .., with 1 to 32 files CERT
pub record IsChain (words certificates : List (List ℕ)) : Type 0 where
  pub words_are : words ≡ chain_word ∷ certificates
  pub limits : AreInLimits certificates

-- the words request this command
abbrev pub AsksFor : List (List ℕ) → Command → Type 0
AsksFor words (OfSignature file) = IsSignature words file
AsksFor words (OfChain certificates) = IsChain words certificates
