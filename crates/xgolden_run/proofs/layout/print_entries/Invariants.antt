use Rattle.std.proofs.Common.{length}
use Rattle.xgolden_run.proofs.layout.print_entries.Given as goal

-- each step leaves one entry less
abbrev pub decreases-loop-entry : goal.decreases-loop-entry
decreases-loop-entry l = length l.entries.are.0
