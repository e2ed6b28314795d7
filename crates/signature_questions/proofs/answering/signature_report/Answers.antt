use Rattle.std.proofs.Common.{inl, inr, refl}
use Rattle.std.proofs.lemmas.Result.{err_from_is_err_and}
use Rattle.signature_questions.specs.Commands.{IsSignatureLine}
use Rattle.signature_questions.proofs.LineReports.{line_reports, memory_reports}
use Rattle.signature_questions.proofs.OneLine.{signature_line_once}
use Rattle.signature_questions.proofs.answering.signature_report.Goals as goal

pub returns-in_ok-lines_of-in-Ok : goal.returns-in_ok-lines_of-in-Ok
returns-in_ok-lines_of-in-Ok c =
    let asked = c.in-Ok.ensures in
    let lines = c.in_ok-lines_of-in-Ok.ensures in
    line_reports (IsSignatureLine c.args.octets.now)
    (signature_line_once c.one_first_fault.ensures.at_most_one c.one_first_fault.ensures.instead_of_an_element c.args.octets.now) _
    (inl (asked.0, asked.1, record { questions = lines.0; are = asked.2 lines.0 lines.1; status = refl; text = lines.2 }))

pub returns-in_err-lines_of-in-Ok : goal.returns-in_err-lines_of-in-Ok
returns-in_err-lines_of-in-Ok c =
    let p = err_from_is_err_and c.from_residual.result c.from_residual.ensures.1 in
    rw (p.1, p.2) (memory_reports (IsSignatureLine c.args.octets.now) _ refl)

pub returns-in_ok-refused_line-in-Err : goal.returns-in_ok-refused_line-in-Err
returns-in_ok-refused_line-in-Err c =
    line_reports (IsSignatureLine c.args.octets.now)
    (signature_line_once c.one_first_fault.ensures.at_most_one c.one_first_fault.ensures.instead_of_an_element c.args.octets.now) _
    (inr (record { error = c.in-Err.error; refuses = c.in-Err.ensures; status = refl; text = c.in_ok-refused_line-in-Err.ensures }))

pub returns-in_err-refused_line-in-Err : goal.returns-in_err-refused_line-in-Err
returns-in_err-refused_line-in-Err c =
    let p = err_from_is_err_and c.from_residual-in_err-refused_line-in-Err.result c.from_residual-in_err-refused_line-in-Err.ensures.1 in
    rw (p.1, p.2) (memory_reports (IsSignatureLine c.args.octets.now) _ refl)
