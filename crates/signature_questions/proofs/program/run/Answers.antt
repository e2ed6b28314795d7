use Rattle.std.proofs.Common.{map}
use Rattle.std.specs.Prelude.{string_bytes}
use Rattle.program_frame.proofs.Parsing.{IsParsed-option}
use Rattle.signature_questions.specs.Commands.{program}
use Rattle.signature_questions.specs.OwnedCommand.{command_held}
use Rattle.signature_questions.proofs.program.run.Goals as goal

pub returns : goal.returns
returns g c = record {
  ends = c.run.ensures (map string_bytes c.args.words.now)
      (IsParsed-option program _ command_held c.command_of.result c.command_of.ensures.asked c.command_of.ensures.only);
}
