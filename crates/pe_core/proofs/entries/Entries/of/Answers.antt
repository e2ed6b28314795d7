use Rattle.std.proofs.Common.{rules}
use Rattle.pe_core.proofs.Tables.{table_are}
use Rattle.pe_core.proofs.entries.Entries.of.Goals as goal

pub returns-then-is_table : goal.returns-then-is_table
returns-then-is_table c = table_are c.args.table.now _ (c.is_table.ensures.0 c.if-is_table.true) (search rules)
