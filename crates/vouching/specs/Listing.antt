-- What a run of `picky_ask` that ended with 0 has written.
use Rattle.std.proofs.Common.{inl, inr}
use Rattle.std.specs.Prelude.{◌⊎◌, ℕ, List, [], ◌∷◌, Option}
use Rattle.cms_types.specs.SignedDataElements.{SignedDataElements}
use Rattle.x509_core.specs.OwnedCertificate.{KeptCertificate}
use Rattle.x509_core.specs.OwnedCertificates.{AreKeptCertificates}
use Rattle.authenticode_core.specs.Basic.{HasSignedData}
use Rattle.program_frame.specs.Limits.{AreWholeFiles, IsWholeFile}
use Rattle.program_frame.specs.ReadFiles.{HandsOut, total_length}
use Rattle.program_frame.specs.Shelf.{ShelfState}
use Rattle.program_frame.specs.Sink.{Appends}
use Rattle.signature_questions.specs.Lines.{question_lines}
use Rattle.signature_questions.specs.Listed.{AreOfChain, AreQuestions}
use Rattle.signature_questions.specs.Question.{Question}
use Rattle.signature_questions.specs.Words.{AsksFor, OfChain, OfSignature}

-- The words are SIG. The octets are those of the file SIG, as far as the shelf exposes its files, and
-- exactly as many were handed out. They begin with an entry around signed data. If the sink exposes
-- its contents, exactly the lines of the questions about it have been appended, in their order.
pub record IsListing (words : List (List ℕ)) (shelf shelf_now : ShelfState)
    (held held_now : Option (List ℕ)) : Type 0 where
  pub file : List ℕ
  pub asked : AsksFor words (OfSignature file)
  pub octets : List ℕ
  pub is_file : IsWholeFile shelf.files file octets
  pub given : HandsOut (total_length (octets ∷ [])) shelf shelf_now
  pub signed_data : SignedDataElements
  pub holds : HasSignedData octets signed_data
  pub questions : List Question
  pub are : AreQuestions signed_data questions
  pub written : Appends held (question_lines questions) held_now

-- The words are --chain CERT .., and the octets of these files are certificates. The rest is likewise:
-- the questions are those about each certificate but the last under the key of the next one.
pub record IsChainListing (words : List (List ℕ)) (shelf shelf_now : ShelfState)
    (held held_now : Option (List ℕ)) : Type 0 where
  pub names : List (List ℕ)
  pub asked : AsksFor words (OfChain names)
  pub octets : List (List ℕ)
  pub are_files : AreWholeFiles shelf.files names octets
  pub given : HandsOut (total_length octets) shelf shelf_now
  pub checked : KeptCertificate
  pub parents : List KeptCertificate
  pub are_certificates : AreKeptCertificates octets (checked ∷ parents)
  pub questions : List Question
  pub are : AreOfChain checked parents questions
  pub written : Appends held (question_lines questions) held_now

-- either
abbrev pub IsListed : (words : List (List ℕ)) → (shelf shelf_now : ShelfState)
    → (held held_now : Option (List ℕ)) → Type 0
IsListed words shelf shelf_now held held_now =
    IsListing words shelf shelf_now held held_now
    ⊎ IsChainListing words shelf shelf_now held held_now

-- the questions whose lines were written
abbrev pub listed_questions : {words : List (List ℕ)} → {shelf shelf_now : ShelfState}
    → {held held_now : Option (List ℕ)} → IsListed words shelf shelf_now held held_now
    → List Question
listed_questions (inl ask) = ask.questions
listed_questions (inr ask) = ask.questions
