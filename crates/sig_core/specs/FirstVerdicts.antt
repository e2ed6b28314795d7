-- The map of a table beside its rows, by which a verdict is found without a search in them.
use Rattle.std.specs.Prelude.{◌≡◌, List}
use Rattle.std.specs.BTreeMap.{BTreeMap, get}
use Rattle.std.specs.declared.cmp.Ordering.{Ordering}
use Rattle.sig_core.specs.declared.scheme.Verdict.{Verdict}
use Rattle.sig_core.specs.declared.verdict_row.SignatureDigests.{SignatureDigests}
use Rattle.sig_core.specs.declared.verdict_row.VerdictRow.{VerdictRow}
use Rattle.sig_core.specs.VerdictTable.{first_verdict}

-- the map has the first verdict on each signature
abbrev pub HasFirstVerdicts : (SignatureDigests → SignatureDigests → Ordering) → List VerdictRow
    → BTreeMap SignatureDigests Verdict → Type 0
HasFirstVerdicts cmp rows verdicts =
    (signature : SignatureDigests) → get cmp verdicts signature ≡ first_verdict rows signature
