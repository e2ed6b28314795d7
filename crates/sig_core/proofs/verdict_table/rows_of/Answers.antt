use Rattle.std.proofs.lemmas.Result.{err_from_is_err_and}
use Rattle.sig_core.proofs.Tables.{begins_with_line}
use Rattle.sig_core.proofs.verdict_table.rows_of.Goals as goal

-- memory is only allocated after a row
pub returns-in_err-push-clause-cause : goal.returns-in_err-push-clause-cause
returns-in_err-push-clause-cause c =
    let p = err_from_is_err_and c.from_residual.result c.from_residual.ensures.1 in
    let split = c.in-Some.ensures in
    rw (p.1, p.2)
    (begins_with_line c.args.text.now _ c.loop-rest.rows.items c.loop-rest.rest.now c.in-Some.row c.in-Some.after.now
    c.loop-rest.invariant.rows c.loop-rest.invariant.spelled split.0 split.1)
