use Rattle.std.proofs.Common.{refl}
use Rattle.std.proofs.lemmas.Result.{err_from_is_err_and}
use Rattle.program_frame.specs.Owned.{contents_held}
use Rattle.trust_anchors.specs.Commands.{certificates_in}
use Rattle.trust_anchors.specs.OwnedCommand.{command_held}
use Rattle.trust_anchors.proofs.Answered.{answer_reports, memory_reports}
use Rattle.trust_anchors.proofs.answering.report_by.Goals as goal

pub returns-in_err-answer : goal.returns-in_err-answer
returns-in_err-answer g c =
    let p = err_from_is_err_and c.from_residual.result c.from_residual.ensures.1 in
    rw (p.1, p.2) (memory_reports _ _ c.in_err-answer.ensures.stopped)

pub returns-in_err-report_of : goal.returns-in_err-report_of
returns-in_err-report_of g c =
    let p = err_from_is_err_and c.from_residual-in_err-report_of.result c.from_residual-in_err-report_of.ensures.1 in
    rw (p.1, p.2) (memory_reports _ _ refl)

pub returns : goal.returns
returns g c =
    answer_reports (g.S.Scheme.judge c.args.scheme.now) (command_held c.args.asked.now)
    (certificates_in (contents_held c.args.read.now)) _ _ c.in_ok-answer.ensures.answer c.in_ok-report_of.ensures
