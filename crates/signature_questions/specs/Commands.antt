-- What is reported about the files of a command; the program.
use Rattle.std.specs.Prelude.{◌≡◌, ◌≢◌, ◌⊎◌, ℕ, List, [], ◌∷◌}
use Rattle.cms_types.specs.SignedDataElements.{SignedDataElements}
use Rattle.x509_core.specs.OwnedCertificate.{KeptCertificate}
use Rattle.x509_core.specs.OwnedCertificates.{AreKeptCertificates, IsFirstUnread}
use Rattle.x509_core.specs.declared.error.CertError.{CertError}
use Rattle.x509_core.specs.declared.error.CertError.TheVariants as cert_errors
use Rattle.authenticode_core.specs.Basic.{HasSignedData, RefusesValue}
use Rattle.program_frame.specs.Commands.{Line, Program}
use Rattle.program_frame.specs.Statuses as statuses
use Rattle.signature_questions.specs.Lines.{question_lines, refused_chain_line, refused_line}
use Rattle.signature_questions.specs.Listed.{AreOfChain, AreQuestions}
use Rattle.signature_questions.specs.Question.{Question}
use Rattle.signature_questions.specs.Words.{AsksFor, Command, OfChain, OfSignature, files_of}

-- The lines of the questions are reported.
pub record IsAsked (Are : List Question → Type 0) (line : Line) : Type 0 where
  pub questions : List Question
  pub are : Are questions
  pub status : line.status ≡ statuses.accepted
  pub text : line.text ≡ question_lines questions

-- A refusal is reported.
pub record IsRefused {E : Type 0} (Refuses : E → Type 0) (text_of : E → List ℕ)
    (line : Line) : Type 0 where
  pub error : E
  pub refuses : Refuses error
  pub status : line.status ≡ statuses.refused
  pub text : line.text ≡ text_of error

-- what is reported about the octets of a signature file: the questions about its signed data, or why
-- it has none
abbrev pub IsSignatureLine : List ℕ → Line → Type 0
IsSignatureLine octets line =
    ((f : SignedDataElements) × HasSignedData octets f × IsAsked (AreQuestions f) line)
    ⊎ IsRefused (RefusesValue octets) refused_line line

-- the error is that of the first octets that aren't a certificate, and isn't that memory ran out
abbrev pub IsRefusedCertificate : List (List ℕ) → CertError → Type 0
IsRefusedCertificate octets e = IsFirstUnread octets e × (e ≢ cert_errors.Memory)

-- what is reported about the octets of certificates: the questions about the chain, or why the first
-- that is none isn't a certificate
abbrev pub IsChainLine : List (List ℕ) → Line → Type 0
IsChainLine octets line =
    ((checked : KeptCertificate) × (parents : List KeptCertificate)
    × AreKeptCertificates octets (checked ∷ parents) × IsAsked (AreOfChain checked parents) line)
    ⊎ IsRefused (IsRefusedCertificate octets) refused_chain_line line

-- what is reported about the contents of the files
abbrev pub IsAnswerLine : Command → List (List ℕ) → Line → Type 0
IsAnswerLine (OfSignature file) (octets ∷ []) line = IsSignatureLine octets line
IsAnswerLine (OfSignature file) contents line = ⊥
IsAnswerLine (OfChain certificates) contents line = IsChainLine contents line

-- the program; its files have no table
abbrev pub program : Program Command
program = record {
  AsksFor = AsksFor;
  files_of = files_of;
  HasBadLine = λ command contents. ⊥;
  IsAnswer = IsAnswerLine;
  Promises = λ command contents line. Unit {0};
}
