use Rattle.std.proofs.Common.{◌↔◌, length}
use Rattle.pe_core.specs.Entries.{HasTable}
use Rattle.pe_core.proofs.entries.is_table.Given as goal

-- the octets are a certificate table exactly where the rest is one
abbrev pub invariant-loop-entry : goal.invariant-loop-entry
invariant-loop-entry l = HasTable l.table ↔ HasTable l.rest

abbrev pub decreases-loop-entry : goal.decreases-loop-entry
decreases-loop-entry l = length l.rest
