-- Verdict tables made for questions.
use Rattle.std.specs.Prelude.{◌≡◌, ◌≢◌, List, Contains}
use Rattle.key_core.specs.Verifying.{Judge}
use Rattle.sig_core.specs.VerdictTable.{signature_of}
use Rattle.sig_core.specs.declared.scheme.Verdict.{Verdict}
use Rattle.sig_core.specs.declared.scheme.Verdict.TheVariants.{Accept, Reject}
use Rattle.sig_core.specs.declared.verdict_row.SignatureDigests.{SignatureDigests}
use Rattle.sig_core.specs.declared.verdict_row.VerdictRow.{VerdictRow}
use Rattle.signature_questions.specs.Question.{Question, verdict_on}

-- the signature of a question as rows name it
abbrev pub digests_of : Question → SignatureDigests
digests_of q = signature_of q.algorithm q.key q.message q.signature

-- the row of a question, with the verdict of a scheme
abbrev pub row_of : Judge → Question → VerdictRow
row_of judge q = record { verdict = verdict_on judge q; signature = digests_of q }

-- The rows are those of questions, in any order, with the verdicts of the scheme: each is the row of
-- one of these questions, and each question whose verdict must be listed has its row. No two of the
-- questions have one row and different verdicts.
pub record AreRowsFor (judge : Judge) (Asked : Question → Type 0) (IsDue : Verdict → Type 0)
    (rows : List VerdictRow) : Type 0 where
  pub of_questions : (row : VerdictRow) → Contains rows row
      → (q : Question) × Asked q × (row ≡ row_of judge q)
  pub due : (q : Question) → Asked q → IsDue (verdict_on judge q) → Contains rows (row_of judge q)
  pub apart : (q r : Question) → Asked q → Asked r → digests_of q ≡ digests_of r
      → verdict_on judge q ≡ verdict_on judge r

-- the rows of all questions that aren't rejected; the others may be left out
abbrev pub AreRowsOf : Judge → (Question → Type 0) → List VerdictRow → Type 0
AreRowsOf judge Asked = AreRowsFor judge Asked (λ verdict. verdict ≢ Reject)

-- the rows of all questions that are accepted; the others may be left out
abbrev pub AreAcceptedRowsOf : Judge → (Question → Type 0) → List VerdictRow → Type 0
AreAcceptedRowsOf judge Asked = AreRowsFor judge Asked (λ verdict. verdict ≡ Accept)

-- The rows may be those of other questions too. Each that names the signature of one of these
-- questions has the verdict of the scheme on it, and each of these whose verdict must be listed has
-- its row.
pub record HasRowsFor (judge : Judge) (Asked : Question → Type 0) (IsDue : Verdict → Type 0)
    (rows : List VerdictRow) : Type 0 where
  pub judged : (q : Question) → Asked q → (row : VerdictRow) → Contains rows row
      → row.signature ≡ digests_of q → row.verdict ≡ verdict_on judge q
  pub due : (q : Question) → Asked q → IsDue (verdict_on judge q) → Contains rows (row_of judge q)

-- a row for each question that isn't rejected, among any others
abbrev pub HasRowsOf : Judge → (Question → Type 0) → List VerdictRow → Type 0
HasRowsOf judge Asked = HasRowsFor judge Asked (λ verdict. verdict ≢ Reject)

-- a row for each question that is accepted, among any others
abbrev pub HasAcceptedRowsOf : Judge → (Question → Type 0) → List VerdictRow → Type 0
HasAcceptedRowsOf judge Asked = HasRowsFor judge Asked (λ verdict. verdict ≡ Accept)

-- No question of the ones has the digests of one of the others, and another verdict.
abbrev pub AreApart : Judge → (Question → Type 0) → (Question → Type 0) → Type 0
AreApart judge Asked Others =
    (q r : Question) → Asked q → Others r → digests_of q ≡ digests_of r
    → verdict_on judge q ≡ verdict_on judge r
