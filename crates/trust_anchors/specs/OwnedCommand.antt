-- A command, as the program stores it.
use Rattle.std.specs.Prelude.{◌+◌, map, string_bytes}
use Rattle.trust_anchors.specs.declared.command.Command.{Command as HeldCommand}
use Rattle.trust_anchors.specs.Words.{Command}

-- the command
abbrev pub command_held : HeldCommand → Command
command_held held = record {
  table = held.table.now;
  purpose = held.purpose;
  date = held.date;
  number = held.more + 1;
  certificates = map string_bytes held.certificates.now;
}
