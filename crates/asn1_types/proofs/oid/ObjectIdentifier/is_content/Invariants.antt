use Rattle.std.proofs.Common.{◌↔◌, length}
use Rattle.asn1_types.proofs.Subidentifiers.{AreSubidentifiers}
use Rattle.asn1_types.proofs.oid.ObjectIdentifier.is_content.Given as goal

-- the octets are subidentifiers if the rest is
abbrev pub invariant-loop-after : goal.invariant-loop-after
invariant-loop-after l = AreSubidentifiers l.bytes ↔ AreSubidentifiers l.rest

abbrev pub decreases-loop-after : goal.decreases-loop-after
decreases-loop-after l = length l.rest
