-- Verdict tables that a verifier stands behind: it accepted whatever their rows accept. A verifier is
-- anything that has a verdict on an algorithm, key bytes, a message and a signature, not on digests
-- of these.
use Rattle.std.specs.Prelude.{◌≡◌, ◌⊎◌, ℕ, List, Contains}
use Rattle.sha2.specs.Sha256.{sha256}
use Rattle.key_core.specs.Verifying.{Judge}
use Rattle.sig_core.specs.declared.scheme.Verdict.TheVariants.{Accept}
use Rattle.sig_core.specs.declared.verdict_row.VerdictRow.{VerdictRow}
use Rattle.signature_questions.specs.Question.{Question, verdict_on}
use Rattle.signature_questions.specs.Tables.{digests_of}

-- The row names one of these questions by its digests, and the verifier accepted that question.
pub record IsVerified (judge : Judge) (asked : List Question) (row : VerdictRow) : Type 0 where
  pub question : Question
  pub among : Contains asked question
  pub names : row.signature ≡ digests_of question
  pub accepted : verdict_on judge question ≡ Accept

-- each row that accepts does; the others are free
abbrev pub AreVerified : Judge → (asked : List Question) → List VerdictRow → Type 0
AreVerified judge asked rows =
    (row : VerdictRow) → Contains rows row → row.verdict ≡ Accept → IsVerified judge asked row

-- questions in play that have the same digests are the same
abbrev pub AreToldApart : (InPlay : Question → Type 0) → Type 0
AreToldApart InPlay =
    (q r : Question) → InPlay q → InPlay r → digests_of q ≡ digests_of r → q ≡ r

-- in play are the questions that the verifier was asked, and those that a check may ask
abbrev pub IsInPlay : (asked : List Question) → (MayAsk : Question → Type 0) → Question → Type 0
IsInPlay asked MayAsk q = Contains asked q ⊎ MayAsk q

-- The verifier, which was asked these questions, stands behind the table in a check that may ask
-- others.
pub record StandsBehind (judge : Judge) (asked : List Question) (MayAsk : Question → Type 0)
    (rows : List VerdictRow) : Type 0 where
  pub verified : AreVerified judge asked rows
  pub apart : AreToldApart (IsInPlay asked MayAsk)

-- ---- where no two of them share a digest

-- the octets are the key, the message or the signature of a question in play
abbrev pub IsPart : (InPlay : Question → Type 0) → List ℕ → Type 0
IsPart InPlay octets =
    (q : Question) × InPlay q
    × ((octets ≡ q.key) ⊎ ((octets ≡ q.message) ⊎ (octets ≡ q.signature)))

-- no two of these have the same SHA-256
abbrev pub HaveOwnDigests : (InPlay : Question → Type 0) → Type 0
HaveOwnDigests InPlay =
    (a b : List ℕ) → IsPart InPlay a → IsPart InPlay b → sha256 a ≡ sha256 b → a ≡ b
