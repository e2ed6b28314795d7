use Rattle.std.proofs.Common.{◌+◌, ◌*◌, length}
use Rattle.der_core.proofs.Outward.{GoesOn}
use Rattle.der_core.proofs.testing.are_elements.Given as goal

abbrev pub invariant-loop-left : goal.invariant-loop-left
invariant-loop-left l = GoesOn l.octets l.rest l.left l.after l.outer

-- An element takes at least one octet, and opens at most one level.
abbrev pub decreases-loop-left : goal.decreases-loop-left
decreases-loop-left l = 2 * length l.rest + l.outer
