use Rattle.std.proofs.Common.{sym, subst, List, ℕ}
use Rattle.std.proofs.lemmas.Result.{err_from_is_err_and}
use Rattle.sig_core.specs.VerdictTable.{IsTable}
use Rattle.sig_core.specs.declared.verdict_row.VerdictRow.{VerdictRow}
use Rattle.program_frame.specs.Owned.{contents_held}
use Rattle.program_frame.specs.KnownTable.{found_rows}
use Rattle.program_frame.proofs.Reporting.{IsReport-no_table, IsReport-table}
use Rattle.program_frame.proofs.table_command.UnderTableCommand.report.Goals as goal

pub returns-in_err-table : goal.returns-in_err-table
returns-in_err-table g c =
    let p = err_from_is_err_and c.from_residual.result c.from_residual.ensures.1 in
    rw (p.1, p.2) (IsReport-no_table g.C.TableCommand.program (g.C.TableCommand.asked c.args.self.now.command.now) (contents_held c.args.read.now)
    c.table_in.result.now c.table_in.ensures c.in_err-table.field-0.0 c.in_err-table.ensures.cause c.in_err-table.ensures.each_table
    c.in_err-table.ensures.each_bad_line)

pub returns : goal.returns
returns g c =
    IsReport-table g.C.TableCommand.program (g.C.TableCommand.asked c.args.self.now.command.now) (contents_held c.args.read.now)
    c.as_table.result.now (subst (λ (rows : List VerdictRow). IsTable (g.C.TableCommand.program.table_in (g.C.TableCommand.asked c.args.self.now.command.now)
    (contents_held c.args.read.now)) rows) (sym c.as_table.ensures)
    (subst (λ (text : List ℕ). IsTable text (found_rows c.in_ok-table.table)) c.table_in.ensures c.in_ok-table.ensures.table))
    c.report_by.result c.report_by.ensures.low c.report_by.ensures.reported
