use Rattle.std.proofs.Common.{List, ℕ, length}
use Rattle.std.specs.Fmt.{HasWritten, IsPlainFormatter}
use Rattle.asn1_types.specs.ObjectIdentifier.{dotted}
use Rattle.asn1_types.proofs.Dotted.{IsPrinting}
use Rattle.asn1_types.proofs.oid.borrowed.LentIdentifierDisplay.fmt.Given as goal

-- what was written and the arcs that are left make the text
abbrev pub invariant-loop-arc : goal.invariant-loop-arc
invariant-loop-arc g l =
    (written : List ℕ) × IsPrinting (dotted l.self.formed.arcs) written l.rest
    × (IsPlainFormatter l.fn.f → HasWritten g.W.Write.write_str_gives l.fn.f written l.f)

abbrev pub decreases-loop-arc : goal.decreases-loop-arc
decreases-loop-arc g l = length l.rest
