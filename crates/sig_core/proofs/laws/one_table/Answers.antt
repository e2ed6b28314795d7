use Rattle.sig_core.proofs.Tables.{table_once, no_bad_line, bad_line_once, carried}
use Rattle.sig_core.proofs.laws.one_table.Goals as goal

pub returns-clause-one_list : goal.returns-clause-one_list
returns-clause-one_list c = table_once

pub returns-clause-one_bad_line : goal.returns-clause-one_bad_line
returns-clause-one_bad_line c = bad_line_once

pub returns-clause-not_both : goal.returns-clause-not_both
returns-clause-not_both c = no_bad_line

pub returns-clause-carried : goal.returns-clause-carried
returns-clause-carried c = carried
