use Rattle.std.proofs.Common.{◌≢◌, ℕ, ◌<◌, List, ◌++◌, get_or}
use Rattle.sig_core.specs.declared.scheme.Verdict.{Verdict}
use Rattle.sig_core.specs.declared.verdict_row.TableVersion.TheVariants.{Two}
use Rattle.sig_core.specs.VerdictTable.{verdict_word}
use Rattle.sig_core.proofs.verdict_row.split_word.Given as goal

-- the text begins with the word of no verdict so far
abbrev pub invariant-loop-verdict : goal.invariant-loop-verdict
invariant-loop-verdict l =
    (k : ℕ) (d : Verdict) (after : List ℕ) → k < l.verdict-index
    → l.text ≢ verdict_word Two (get_or l.verdict-items k d) ++ after
