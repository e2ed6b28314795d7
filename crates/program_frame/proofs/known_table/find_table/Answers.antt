use Rattle.std.proofs.lemmas.Result.{err_from_is_err_and}
use Rattle.sig_core.proofs.Tables.{no_bad_line, table_once}
use Rattle.program_frame.proofs.known_table.find_table.Goals as goal

pub returns-in-Some-of-clause-each_table : goal.returns-in-Some-of-clause-each_table
returns-in-Some-of-clause-each_table c rows is = table_once _ _ rows c.in-Some-of.ensures is

pub returns-in-Some-of-clause-each_bad_line : goal.returns-in-Some-of-clause-each_bad_line
returns-in-Some-of-clause-each_bad_line c number bad = absurd (no_bad_line _ _ number c.in-Some-of.ensures bad)

pub returns-in_err-parse-clause-each_table : goal.returns-in_err-parse-clause-each_table
returns-in_err-parse-clause-each_table c rows is =
    let p = err_from_is_err_and c.from_residual.result c.from_residual.ensures.1 in
    rw (p.1, p.2) (c.in_err-parse.ensures.each_table rows is)
