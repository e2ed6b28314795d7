use Rattle.std.proofs.Common.{map}
use Rattle.std.specs.Prelude.{string_bytes}
use Rattle.program_frame.proofs.Parsing.{IsParsed-option}
use Rattle.ca_register.specs.Commands.{program}
use Rattle.ca_register.specs.OwnedCommand.{command_held}
use Rattle.ca_register.proofs.Answered.{reported_count}
use Rattle.ca_register.proofs.program.run.Goals as goal

pub returns-clause-ends : goal.returns-clause-ends
returns-clause-ends g c = c.run.ensures (map string_bytes c.args.words.now)
    (IsParsed-option program _ command_held c.command_of.result c.command_of.ensures.asked c.command_of.ensures.only)

pub returns-clause-counted : goal.returns-clause-counted
returns-clause-counted g c zero =
    reported_count _ _ _ _ _ _ c.run.result zero
    (c.run.ensures (map string_bytes c.args.words.now)
    (IsParsed-option program _ command_held c.command_of.result c.command_of.ensures.asked c.command_of.ensures.only))
