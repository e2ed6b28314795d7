use Rattle.std.proofs.Common.{take}
use Rattle.sig_core.specs.FirstVerdicts.{HasFirstVerdicts}
use Rattle.sig_core.specs.contracts.verdict_row.SignatureDigestsOrd.TheImpl as block
use Rattle.sig_core.proofs.verdict_table.first_verdicts.Given as goal

-- the map has the first verdicts of the rows so far
abbrev pub invariant-loop-row : goal.invariant-loop-row
invariant-loop-row l = HasFirstVerdicts block.ghosts.cmp (take l.row-index l.rows) l.verdicts
