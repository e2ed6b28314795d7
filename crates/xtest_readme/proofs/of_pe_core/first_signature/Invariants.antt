use Rattle.std.proofs.Common.{length}
use Rattle.xtest_readme.proofs.of_pe_core.first_signature.Given as goal

-- each step leaves one entry less
abbrev pub decreases-loop-entry : goal.decreases-loop-entry
decreases-loop-entry l = length l.entries.are.0
