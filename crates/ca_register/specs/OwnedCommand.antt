-- A command, as the program stores it.
use Rattle.ca_register.specs.Words.{Command}
use Rattle.ca_register.specs.declared.command.Command.{Command as HeldCommand}

-- the command
abbrev pub command_held : HeldCommand → Command
command_held held = record { file = held.file.now; date = held.date }
