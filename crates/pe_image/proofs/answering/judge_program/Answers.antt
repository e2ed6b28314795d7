use Rattle.pe_image.proofs.Reported.{program_reported}
use Rattle.pe_image.proofs.answering.judge_program.Goals as goal

pub returns : goal.returns
returns g c =
    program_reported (g.S.Scheme.judge c.args.scheme.now) c.args.policy c.args.octets.now c.check_pe-answer.result c.report_of.result
    c.check_pe-answer.ensures.answer c.check_pe-answer.ensures.only c.report_of.ensures
