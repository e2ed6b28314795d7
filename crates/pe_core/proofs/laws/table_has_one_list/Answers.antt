use Rattle.pe_core.proofs.Tables.{one_table}
use Rattle.pe_core.proofs.laws.table_has_one_list.Goals as goal

pub returns : goal.returns
returns c = one_table
