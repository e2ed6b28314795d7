use Rattle.std.proofs.Common.{◌≡◌, ◌++◌, take}
use Rattle.sig_core.specs.VerdictTable.{first_line, lines_of}
use Rattle.sig_core.specs.declared.verdict_row.TableVersion.TheVariants.{Two}
use Rattle.sig_core.proofs.verdict_table.VerdictTable.to_bytes.Given as goal

-- the text has the first line and the lines of the rows so far
abbrev pub invariant-loop-row : goal.invariant-loop-row
invariant-loop-row l = l.text.items ≡ first_line Two ++ lines_of Two (take l.row-index l.row-items)
