use Rattle.std.proofs.Common.{map}
use Rattle.ca_register.specs.Owned.{line_held}
use Rattle.ca_register.proofs.Answered.{answer_reports}
use Rattle.ca_register.proofs.answering.report_lines.Goals as goal

pub returns-clause-answer : goal.returns-clause-answer
returns-clause-answer c =
    answer_reports c.args.date.now (map line_held c.args.lines.now) c.in_ok-answer.answer c.in_ok-report_of.field-0 c.in_ok-answer.ensures.answer
    c.in_ok-report_of.ensures
