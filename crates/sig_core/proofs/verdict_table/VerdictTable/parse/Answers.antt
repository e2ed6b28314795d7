use Rattle.std.proofs.Common.{◌∙◌, subst}
use Rattle.std.proofs.lemmas.Result.{err_from_is_err_and}
use Rattle.sig_core.proofs.Rows.{rows_of_two}
use Rattle.sig_core.proofs.Tables.{begins_where_some, table_once, no_bad_line, cause_at_table, cause_at_bad_line}
use Rattle.sig_core.specs.FirstVerdicts.{HasFirstVerdicts}
use Rattle.sig_core.proofs.verdict_table.VerdictTable.parse.Goals as goal

pub returns-in_err-rows-clause-each_table : goal.returns-in_err-rows-clause-each_table
returns-in_err-rows-clause-each_table c rows h =
    let p = err_from_is_err_and c.from_residual.result c.from_residual.ensures.1 in
    rw (p.1, p.2) (cause_at_table c.args.bytes.now rows _ h c.in_err-rows.ensures.cause)

pub returns-in_err-rows-clause-each_bad_line : goal.returns-in_err-rows-clause-each_bad_line
returns-in_err-rows-clause-each_bad_line c number h =
    let p = err_from_is_err_and c.from_residual.result c.from_residual.ensures.1 in
    rw (p.1, p.2) (cause_at_bad_line c.args.bytes.now number _ h c.in_err-rows.ensures.cause)

pub returns-in_err-verdicts-clause-cause : goal.returns-in_err-verdicts-clause-cause
returns-in_err-verdicts-clause-cause c =
    let p = err_from_is_err_and c.from_residual-in_err-verdicts.result c.from_residual-in_err-verdicts.ensures.1 in
    rw (p.1, p.2) (begins_where_some c.args.bytes.now c.in_ok-rows.rows.items c.in_ok-rows.ensures.table
    (λ none. let no = c.in_err-verdicts.ensures.none (c.deref.ensures.value ∙ none) in absurd cc))

pub returns-clause-each_table : goal.returns-clause-each_table
returns-clause-each_table c rows h = table_once c.args.bytes.now _ rows c.in_ok-rows.ensures.table h

pub returns-clause-each_bad_line : goal.returns-clause-each_bad_line
returns-clause-each_bad_line c number h = no_bad_line c.args.bytes.now _ number c.in_ok-rows.ensures.table h

pub invariant_of-result : goal.invariant_of-result
invariant_of-result c =
    let table = c.in_ok-rows.ensures.table in (
      rows_of_two table.version _ table.are_rows,
      subst (λ rows. HasFirstVerdicts _ rows c.in_ok-verdicts.verdicts) c.deref.ensures.value c.in_ok-verdicts.ensures.first,
    )
