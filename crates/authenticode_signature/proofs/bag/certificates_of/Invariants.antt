use Rattle.std.proofs.Common.{length}
use Rattle.authenticode_signature.proofs.Members.{AreRead}
use Rattle.authenticode_signature.proofs.bag.certificates_of.Given as goal

abbrev pub invariant-loop-member : goal.invariant-loop-member
invariant-loop-member l = AreRead l.members l.rest l.certificates.items

abbrev pub decreases-loop-member : goal.decreases-loop-member
decreases-loop-member l = length l.rest
