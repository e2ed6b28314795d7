use Rattle.std.proofs.Common.{◌≡◌, length}
use Rattle.asn1_types.specs.Integer.{number_of}
use Rattle.asn1_types.proofs.integer.without_zeros.Given as goal

-- Only zeros are dropped, which doesn't change the number.
abbrev pub invariant-loop-rest : goal.invariant-loop-rest
invariant-loop-rest l = number_of l.rest ≡ number_of l.octets

abbrev pub decreases-loop-rest : goal.decreases-loop-rest
decreases-loop-rest l = length l.rest
