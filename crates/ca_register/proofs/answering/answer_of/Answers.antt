use Rattle.std.proofs.Common.{map}
use Rattle.ca_register.specs.Owned.{line_held}
use Rattle.ca_register.proofs.Answered.{issued_count}
use Rattle.ca_register.proofs.answering.answer_of.Goals as goal

pub returns-in-Ok-clause-issued : goal.returns-in-Ok-clause-issued
returns-in-Ok-clause-issued c issued accepted same =
    let register = c.in-Ok.register in
    issued_count c.args.date.now (map line_held c.args.lines.now) register.entries.items register.certificates.items c.in-Ok.ensures.filled
    c.len.ensures.register c.len.result c.accepted_count.result issued accepted c.accepted_count.ensures.accepted same

pub returns-in-Err-clause-answer : goal.returns-in-Err-clause-answer
returns-in-Err-clause-answer c = c.refused_for.ensures.answer c.args.date.now (map line_held c.args.lines.now) c.in-Err.ensures.refused
