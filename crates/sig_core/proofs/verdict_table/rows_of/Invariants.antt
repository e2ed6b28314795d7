use Rattle.std.proofs.Common.{◌≡◌, ◌++◌, length}
use Rattle.std.specs.List.{AllByRecursion}
use Rattle.sig_core.specs.VerdictTable.{IsRow, first_line, lines_of}
use Rattle.sig_core.proofs.verdict_table.rows_of.Given as goal

-- the first line, the lines of the rows so far, and the rest, are the text
abbrev pub invariant-loop-rest : goal.invariant-loop-rest
invariant-loop-rest l = record {
  rows : AllByRecursion (IsRow l.version) l.rows.items;
  spelled : l.text ≡ first_line l.version ++ lines_of l.version l.rows.items ++ l.rest;
}

abbrev pub decreases-loop-rest : goal.decreases-loop-rest
decreases-loop-rest l = length l.rest
