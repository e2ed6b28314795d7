use Rattle.std.proofs.Common.{length}
use Rattle.asn1_types.proofs.FirstArcs.{AreSeen}
use Rattle.asn1_types.proofs.oid.arcs.is_dotted.Given as goal

-- the pieces so far are arcs, and the first two of them are remembered
abbrev pub invariant-loop-piece : goal.invariant-loop-piece
invariant-loop-piece l =
    (goal.iterator-loop-piece).can_next l.piece-iterator × (goal.iterator-loop-piece).is_finite l.piece-iterator
    × AreSeen l.text (length l.yielded) l.first l.second
