use Rattle.std.proofs.Common.{length}
use Rattle.authenticode_parts.proofs.CarriedCertificates.{AreKept}
use Rattle.authenticode_parts.proofs.carrying.kept_certificates.Given as goal

abbrev pub invariant-loop-certificate : goal.invariant-loop-certificate
invariant-loop-certificate l = AreKept l.certificates l.rest l.members

abbrev pub decreases-loop-certificate : goal.decreases-loop-certificate
decreases-loop-certificate l = length l.rest
