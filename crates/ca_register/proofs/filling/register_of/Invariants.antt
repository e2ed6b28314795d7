use Rattle.std.proofs.Common.{map, take}
use Rattle.ca_register.specs.Owned.{line_held}
use Rattle.ca_register.specs.Filling.{IsFilled}
use Rattle.ca_register.proofs.filling.register_of.Given as goal

-- the lines so far
abbrev pub invariant-loop-place : goal.invariant-loop-place
invariant-loop-place l = IsFilled (take l.place (map line_held l.lines)) l.register.entries.items l.register.certificates.items
