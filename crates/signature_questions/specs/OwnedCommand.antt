-- A command, as the program stores it.
use Rattle.std.specs.Prelude.{◌∷◌, map, string_bytes}
use Rattle.signature_questions.specs.Words.{Command, OfChain, OfSignature}
use Rattle.signature_questions.specs.declared.command.Command.{Command as HeldCommand}
use Rattle.signature_questions.specs.declared.command.Command.TheVariants as held

-- the command
abbrev pub command_held : HeldCommand → Command
command_held (held.Signature file) = OfSignature file.now
command_held (held.Chain checked parents) = OfChain (checked.now ∷ map string_bytes parents.now)
