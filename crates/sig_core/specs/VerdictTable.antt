-- Verdict tables: the line of a row in both versions, where a text stops being a table, and the
-- verdict on a signature.
use Rattle.std.specs.Prelude.{◌≡◌, ◌≢◌, ℕ, ◌+◌, List, [], ◌∷◌, ◌++◌, length, Bool, ◌&&◌, codes, find, Option, option_map, ⊤}
use Rattle.std.specs.List.{AllByRecursion, flat_map}
use Rattle.std.specs.Option.{unwrap_or}
use Rattle.std.specs.Str.{bytes_eq}
use Rattle.hex.specs.Hex.{encode_lower, IsBytes}
use Rattle.sha2.specs.Sha256.{sha256}
use Rattle.sig_core.specs.declared.algorithm.SigAlg.{SigAlg}
use Rattle.sig_core.specs.declared.scheme.Verdict.{Verdict}
use Rattle.sig_core.specs.declared.scheme.Verdict.TheVariants.{Accept, Reject, Malformed}
use Rattle.sig_core.specs.declared.verdict_row.SignatureDigests.{SignatureDigests}
use Rattle.sig_core.specs.declared.verdict_row.TableVersion.{TableVersion}
use Rattle.sig_core.specs.declared.verdict_row.TableVersion.TheVariants.{One, Two}
use Rattle.sig_core.specs.declared.verdict_row.VerdictRow.{VerdictRow}
use Rattle.sig_core.specs.declared.verdict_table.TableError.{TableError}
use Rattle.sig_core.specs.declared.verdict_table.TableError.TheVariants.{BadLine, Memory}
use Rattle.sig_core.specs.Algorithm.{name_of}

-- 32 octets
abbrev pub IsDigest : List ℕ → Type 0
IsDigest digest = (length digest ≡ 32) × IsBytes digest

-- an algorithm and three digests, those of key bytes, of a message and of a signature
abbrev pub AreDigests : SignatureDigests → Type 0
AreDigests signature = IsDigest signature.key × IsDigest signature.msg × IsDigest signature.sig

-- the octet between the words of a line
abbrev pub space : ℕ
space = 0x20

-- the octet at the end of a line
abbrev pub newline : ℕ
newline = 0x0A

-- the line that names a signature: the algorithm, and the digests in lower-case hexadecimal digits,
-- with one space between
abbrev pub signature_line : SignatureDigests → List ℕ
signature_line signature =
    name_of signature.alg ++ space ∷ encode_lower signature.key
    ++ space ∷ encode_lower signature.msg ++ space ∷ encode_lower signature.sig ++ newline ∷ []

-- the text doesn't begin with a line that names a signature
abbrev pub BeginsWithNoSignature : List ℕ → Type 0
BeginsWithNoSignature text =
    (signature : SignatureDigests) (after : List ℕ) → AreDigests signature
    → text ≢ signature_line signature ++ after

-- the beginning of a table: version 2 has a line of its own, version 1 begins with its rows
abbrev pub first_line : TableVersion → List ℕ
first_line One = []
first_line Two = codes "picky-verdicts 2" ++ newline ∷ []

-- the number of the line of the first row
abbrev pub first_number : TableVersion → ℕ
first_number One = 1
first_number Two = 2

-- a text is of version 2 if it begins with the line of that version, else of version 1
abbrev pub IsOfVersion : List ℕ → TableVersion → Type 0
IsOfVersion text One = (after : List ℕ) → text ≢ first_line Two ++ after
IsOfVersion text Two = (after : List ℕ) × (text ≡ first_line Two ++ after)

-- the verdicts that a row may have: in version 1 only Accept
abbrev pub AdmitsVerdict : TableVersion → Verdict → Type 0
AdmitsVerdict One verdict = verdict ≡ Accept
AdmitsVerdict Two verdict = ⊤

-- a row of a version
abbrev pub IsRow : TableVersion → VerdictRow → Type 0
IsRow version row = AdmitsVerdict version row.verdict × AreDigests row.signature

-- the beginning of a row's line: in version 2 the word of its verdict
abbrev pub verdict_word : TableVersion → Verdict → List ℕ
verdict_word One verdict = []
verdict_word Two Accept = codes "accept "
verdict_word Two Reject = codes "reject "
verdict_word Two Malformed = codes "malformed "

-- the line of a row
abbrev pub line_of : TableVersion → VerdictRow → List ℕ
line_of version row = verdict_word version row.verdict ++ signature_line row.signature

-- the lines of rows in order
abbrev pub lines_of : TableVersion → List VerdictRow → List ℕ
lines_of version rows = flat_map (line_of version) rows

-- the text is a table of these rows
pub record IsTable (text : List ℕ) (rows : List VerdictRow) : Type 0 where
  pub version : TableVersion
  pub of_version : IsOfVersion text version
  pub are_rows : AllByRecursion (IsRow version) rows
  pub spelled : text ≡ first_line version ++ lines_of version rows

-- the text doesn't begin with the line of a row
abbrev pub BeginsWithNoLine : TableVersion → List ℕ → Type 0
BeginsWithNoLine version text =
    (row : VerdictRow) (after : List ℕ) → IsRow version row → text ≢ line_of version row ++ after

-- the line of this number is the first that isn't the line of a row: after the lines of the rows
-- before it something is left, and that doesn't begin with the line of a row. Lines are counted
-- from 1, the first line of version 2 included
pub record IsFirstBadLine (text : List ℕ) (number : ℕ) : Type 0 where
  pub version : TableVersion
  pub before : List VerdictRow
  pub rest : List ℕ
  pub of_version : IsOfVersion text version
  pub are_rows : AllByRecursion (IsRow version) before
  pub spelled : text ≡ first_line version ++ lines_of version before ++ rest
  pub more : rest ≢ []
  pub bad : BeginsWithNoLine version rest
  pub counted : number ≡ length before + first_number version

-- the table of version 2 that has these rows
abbrev pub version_2_text : List VerdictRow → List ℕ
version_2_text rows = first_line Two ++ lines_of Two rows

-- the signature as rows name it
abbrev pub signature_of : SigAlg → List ℕ → List ℕ → List ℕ → SignatureDigests
signature_of alg key msg sig =
    record { alg = alg; key = sha256 key; msg = sha256 msg; sig = sha256 sig }

-- whether two signatures have the same algorithm and the same digests
abbrev pub is_same_signature : SignatureDigests → SignatureDigests → Bool
is_same_signature a b =
    bytes_eq (name_of a.alg) (name_of b.alg)
    && bytes_eq a.key b.key && bytes_eq a.msg b.msg && bytes_eq a.sig b.sig

-- the verdict of the first row that names the signature
abbrev pub first_verdict : List VerdictRow → SignatureDigests → Option Verdict
first_verdict rows signature =
    option_map (λ row. row.verdict) (find (λ row. is_same_signature signature row.signature) rows)

-- the verdict of a table: that of the first row that names the signature. A signature that no row
-- names is rejected
abbrev pub verdict_of : List VerdictRow → SigAlg → List ℕ → List ℕ → List ℕ → Verdict
verdict_of rows alg key msg sig =
    unwrap_or (first_verdict rows (signature_of alg key msg sig)) Reject

-- after its first line, if it has one, the text begins with the line of a row
pub record BeginsWithLine (text : List ℕ) : Type 0 where
  pub version : TableVersion
  pub row : VerdictRow
  pub after : List ℕ
  pub is_row : IsRow version row
  pub spelled : text ≡ first_line version ++ line_of version row ++ after

-- why a text isn't parsed. Memory runs out only if there is a row
abbrev pub IsCause : List ℕ → TableError → Type 0
IsCause text (BadLine number) = IsFirstBadLine text number
IsCause text Memory = BeginsWithLine text
