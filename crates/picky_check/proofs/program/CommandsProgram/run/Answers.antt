use Rattle.std.proofs.Common.{◌∙◌, arith}
use Rattle.program_frame.proofs.Parsing.{IsParsed-result}
use Rattle.picky_check.specs.Commands.{program}
use Rattle.picky_check.specs.OwnedCommand.{command_held}
use Rattle.picky_check.proofs.Vouching.{vouched_for}
use Rattle.picky_check.proofs.program.CommandsProgram.run.Goals as goal

pub returns-clause-ends : goal.returns-clause-ends
returns-clause-ends g c =
    c.run_by_table.ensures _
    (IsParsed-result program _ command_held c.command_of.result c.command_of.ensures.asked c.command_of.ensures.only c.command_of.ensures.memory)

pub returns-clause-accepted : goal.returns-clause-accepted
returns-clause-accepted g c zero =
    let h = (returns-clause-ends g c).reported (omega (arith, zero)) in
    vouched_for c.one_signed_data.ensures _ _ _ _ _ h.line h.is_answer (h.is_status ∙ zero) h.has_line
