-- A command, as the program stores it.
use Rattle.std.specs.Prelude.{string_bytes}
use Rattle.pe_image.specs.declared.words.Command.{Command as HeldCommand}
use Rattle.pe_image.specs.Words.{Command}
use Rattle.program_frame.specs.Owned.{options_held}

-- the command
abbrev pub command_held : HeldCommand → Command
command_held command = record {
  file = command.file.now;
  table = string_bytes command.table.now;
  date = command.date;
  options = options_held command.options;
}
