-- A command, as the program stores it.
use Rattle.std.specs.Prelude.{map, string_bytes}
use Rattle.picky_check.specs.declared.words.Command.{Command as HeldCommand}
use Rattle.picky_check.specs.declared.words.Command.TheVariants as held
use Rattle.picky_check.specs.Words.{Command, Basic, Check, Chain}
use Rattle.program_frame.specs.Owned.{options_held}

-- the command
abbrev pub command_held : HeldCommand → Command
command_held (held.Basic signature table hash) = Basic signature.now table.now hash.items
command_held (held.Check signature table hash date options) =
    Check signature.now (string_bytes table.now) hash.items date (options_held options)
command_held (held.Chain table date certificates) =
    Chain table.now date (map string_bytes certificates.names.now)
