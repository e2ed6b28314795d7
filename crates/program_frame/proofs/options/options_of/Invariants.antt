use Rattle.std.proofs.Common.{length, map, string_bytes}
use Rattle.program_frame.specs.Owned.{options_held}
use Rattle.program_frame.proofs.OptionWords.{AreRead}
use Rattle.program_frame.proofs.options.options_of.Given as goal

-- these options were read, and the others are those of the rest
abbrev pub invariant-loop-rest : goal.invariant-loop-rest
invariant-loop-rest l = AreRead (map string_bytes l.words) (map string_bytes l.rest) (options_held l.options)

abbrev pub decreases-loop-rest : goal.decreases-loop-rest
decreases-loop-rest l = length l.rest
