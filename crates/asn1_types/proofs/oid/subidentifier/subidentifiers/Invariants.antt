use Rattle.std.proofs.Common.{◌≡◌, ◌∷◌, take}
use Rattle.std.specs.List.{flat_map}
use Rattle.asn1_types.specs.Subidentifier.{subidentifier}
use Rattle.asn1_types.proofs.oid.subidentifier.subidentifiers.Given as goal

-- the octets so far are the subidentifiers of the numbers so far
abbrev pub invariant-loop-number : goal.invariant-loop-number
invariant-loop-number l = l.octets.items ≡ flat_map subidentifier (l.first ∷ take l.number-index l.more)
