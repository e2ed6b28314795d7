use Rattle.std.proofs.Common.{◌∙◌, arith}
use Rattle.program_frame.proofs.Parsing.{IsParsed-option}
use Rattle.trust_anchors.specs.Commands.{program}
use Rattle.trust_anchors.specs.OwnedCommand.{command_held}
use Rattle.trust_anchors.proofs.Answered.{reported_path}
use Rattle.trust_anchors.proofs.program.run.Goals as goal

pub returns-clause-ends : goal.returns-clause-ends
returns-clause-ends g c =
    c.run_by_table.ensures _ (IsParsed-option program _ command_held c.command_of.result c.command_of.ensures.asked c.command_of.ensures.only)

pub returns-clause-anchored : goal.returns-clause-anchored
returns-clause-anchored g c zero =
    let h = (returns-clause-ends g c).reported (omega (arith, zero)) in
    reported_path _ _ _ _ _ h.line h.is_answer (h.is_status ∙ zero) h.has_line
