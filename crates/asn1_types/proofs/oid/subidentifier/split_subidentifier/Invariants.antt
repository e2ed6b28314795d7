use Rattle.std.proofs.Common.{◌≡◌, ◌++◌, length}
use Rattle.asn1_types.specs.Subidentifier.{leading_octets}
use Rattle.asn1_types.proofs.oid.subidentifier.split_subidentifier.Given as goal

-- what was read are the leading octets of the number
abbrev pub invariant-loop-octet : goal.invariant-loop-octet
invariant-loop-octet l = l.octets ≡ leading_octets l.number ++ l.rest

abbrev pub decreases-loop-octet : goal.decreases-loop-octet
decreases-loop-octet l = length l.rest
