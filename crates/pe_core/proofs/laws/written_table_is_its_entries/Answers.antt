use Rattle.pe_core.proofs.Tables.{written_is}
use Rattle.pe_core.proofs.laws.written_table_is_its_entries.Goals as goal

pub returns : goal.returns
returns c = written_is
