use Rattle.name_types.specs.Text.{bmp_text}
use Rattle.name_types.proofs.text.write_bmp.Given as goal
use Rattle.std.proofs.Common.{◌≡◌, ℕ, List, ◌++◌, length}
use Rattle.std.specs.Fmt.{HasWritten, IsPlainFormatter}

-- what was written and the text of the octets that are left make the text
abbrev pub invariant-loop-character : goal.invariant-loop-character
invariant-loop-character g l =
    IsPlainFormatter l.fn.f
    → (written : List ℕ) × HasWritten g.W.Write.write_str_gives l.fn.f written l.f × (written ++ bmp_text l.rest ≡ bmp_text l.fn.octets)

abbrev pub decreases-loop-character : goal.decreases-loop-character
decreases-loop-character g l = length l.rest
