use Rattle.std.proofs.Common.{◌≡◌, eqb, map, take, length}
use Rattle.std.specs.Fmt.{decimal}
use Rattle.std.specs.List.{AllByRecursion, slice_split}
use Rattle.asn1_types.specs.Subidentifier.{IsSubidentifier}
use Rattle.asn1_types.proofs.oid.arcs.parse_arcs.Given as goal

-- the arcs so far are those of the pieces so far
abbrev pub invariant-loop-piece : goal.invariant-loop-piece
invariant-loop-piece l =
    (goal.iterator-loop-piece).can_next l.piece-iterator × (goal.iterator-loop-piece).is_finite l.piece-iterator
    × AllByRecursion IsSubidentifier l.arcs.items
    × (map decimal l.arcs.items ≡ take (length l.yielded) (slice_split (λ octet. eqb octet 46) l.text))
