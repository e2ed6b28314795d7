-- The program: which words request a command, its file, and its answer.
use Rattle.std.specs.Prelude.{◌∷◌, []}
use Rattle.program_frame.specs.Commands.{Program}
use Rattle.ca_register.specs.Answer.{IsAnswerLine, text_in}
use Rattle.ca_register.specs.Lines.{HasBadLine}
use Rattle.ca_register.specs.Reported.{IsCountIfAccepted}
use Rattle.ca_register.specs.Words.{AsksFor, Command}

-- the program
abbrev pub program : Program Command
program = record {
  AsksFor = AsksFor;
  files_of = λ command. command.file ∷ [];
  HasBadLine = λ command contents. HasBadLine (text_in contents);
  IsAnswer = λ command contents. IsAnswerLine command.date (text_in contents);
  Promises = λ command contents. IsCountIfAccepted command.date (text_in contents);
}
