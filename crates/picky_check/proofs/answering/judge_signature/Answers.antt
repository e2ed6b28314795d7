use Rattle.picky_check.proofs.Reported.{signature_reported}
use Rattle.picky_check.proofs.answering.judge_signature.Goals as goal

pub returns : goal.returns
returns g c =
    signature_reported (g.S.Scheme.judge c.args.scheme.now) c.args.policy.now c.args.octets.now c.check_wincert-answer.result c.report_of.result
    c.check_wincert-answer.ensures.answer c.check_wincert-answer.ensures.only c.report_of.ensures
