use Rattle.std.proofs.lemmas.Result.{err_from_is_err_and}
use Rattle.door_frame.proofs.table_handle.TableHandle.parse.Goals as goal

pub returns-in_err-parse-clause-each_table : goal.returns-in_err-parse-clause-each_table
returns-in_err-parse-clause-each_table c rows is =
    let p = err_from_is_err_and c.from_residual.result c.from_residual.ensures.1 in
    rw (p.1, p.2) (c.in_err-parse.ensures.each_table rows is)
