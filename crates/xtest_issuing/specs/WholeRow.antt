-- Rows of whole signatures, and the scheme that accepts these and no others.
use Rattle.std.specs.Prelude.{ℕ, Bool, ◌&&◌, if◌then◌else◌, List, bytes_eq}
use Rattle.std.specs.List.{list_any}
use Rattle.key_core.specs.Verifying.{Judge}
use Rattle.sig_core.specs.Algorithm.{name_of}
use Rattle.sig_core.specs.declared.algorithm.SigAlg.{SigAlg}
use Rattle.sig_core.specs.declared.scheme.Verdict.TheVariants.{Accept, Reject}
use Rattle.xtest_issuing.specs.declared.whole_rows.WholeRow.{WholeRow}

-- the row of a signature
abbrev pub row_of : SigAlg → (key msg sig : List ℕ) → WholeRow
row_of alg key msg sig = record { alg = alg; key = key; msg = msg; sig = sig }

-- the row is this signature: of an algorithm, key bytes and a message
abbrev pub is_row_of : SigAlg → (key msg sig : List ℕ) → WholeRow → Bool
is_row_of alg key msg sig row =
    bytes_eq (name_of alg) (name_of row.alg)
    && bytes_eq key row.key && bytes_eq msg row.msg && bytes_eq sig row.sig

-- a signature is accepted exactly if some row is it
abbrev pub verdict_of : List WholeRow → Judge
verdict_of rows alg key msg sig =
    if list_any (is_row_of alg key msg sig) rows then Accept else Reject
