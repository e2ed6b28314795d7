use Rattle.std.proofs.lemmas.Result.{err_from_is_err_and}
use Rattle.program_frame.proofs.known_table.KnownTable.parse.Goals as goal

pub returns-in_err-table-clause-each_table : goal.returns-in_err-table-clause-each_table
returns-in_err-table-clause-each_table c rows is =
    let p = err_from_is_err_and c.from_residual.result c.from_residual.ensures.1 in
    rw (p.1, p.2) (c.in_err-table.ensures.each_table rows is)
