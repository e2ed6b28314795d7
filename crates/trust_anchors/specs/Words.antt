-- The words of the command line.
use Rattle.std.specs.Prelude.{◌≡◌, ◌+◌, ◌≤◌, ℕ, List, [], ◌∷◌, length, codes}
use Rattle.asn1_types.specs.declared.generalized_time.GeneralizedTime.{GeneralizedTime}
use Rattle.program_frame.specs.DateWord.{IsDateWord}
use Rattle.trust_anchors.specs.declared.anchor.Purpose.{Purpose}
use Rattle.trust_anchors.specs.declared.anchor.Purpose.TheVariants as purposes

-- a path from a certificate to an anchor that serves the purpose, at a date, by the signatures that
-- the table accepts
pub record Command : Type 0 where
  -- the file TABLE
  pub table : List ℕ
  pub purpose : Purpose
  pub date : GeneralizedTime
  -- the number of anchors
  pub number : ℕ
  -- the files A1 .. AN, CERT and P1 ..: the anchors, the certificate, and those of the pool
  pub certificates : List (List ℕ)

-- the names of its files, in the order of reading
abbrev pub files_of : Command → List (List ℕ)
files_of command = command.table ∷ command.certificates

-- the word PURPOSE
abbrev pub purpose_word : Purpose → List ℕ
purpose_word purposes.Code = codes "code"
purpose_word purposes.Time = codes "time"

-- N: one digit, from 1 to 8
pub record IsNumberWord (word : List ℕ) (number : ℕ) : Type 0 where
  pub digit : word ≡ (0x30 + number) ∷ []
  pub some : 1 ≤ number
  pub most : number ≤ 8

-- TABLE PURPOSE DATE N A1 .. AN CERT P1 .., with N files of anchors, and at most 32 of the pool.
pub record AsksFor (words : List (List ℕ)) (command : Command) : Type 0 where
  pub date_word : List ℕ
  pub number_word : List ℕ
  pub words_are : words
      ≡ command.table ∷ purpose_word command.purpose ∷ date_word ∷ number_word ∷ command.certificates
  pub date_is : IsDateWord date_word command.date
  pub number_is : IsNumberWord number_word command.number
  pub some : command.number + 1 ≤ length command.certificates
  pub most : length command.certificates ≤ command.number + 33
