use Rattle.std.proofs.Common.{length, map}
use denote.Shadow.{shadow}
use denote.Text.{Utf8}
use Rattle.ca_register.specs.Owned.{line_held}
use Rattle.ca_register.proofs.Texts.{HasRead}
use Rattle.ca_register.proofs.text.reading.lines_in.Given as goal

-- the lines so far, and the rest, are the text
abbrev pub invariant-loop-rest : goal.invariant-loop-rest
invariant-loop-rest l = shadow (Utf8 l.rest) × HasRead l.text l.rest (map line_held l.lines.items)

abbrev pub decreases-loop-rest : goal.decreases-loop-rest
decreases-loop-rest l = length l.rest
