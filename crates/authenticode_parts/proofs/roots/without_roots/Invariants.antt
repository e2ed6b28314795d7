use Rattle.std.proofs.Common.{length}
use Rattle.authenticode_parts.proofs.SortedCertificates.{AreSorted}
use Rattle.authenticode_parts.proofs.roots.without_roots.Given as goal

abbrev pub invariant-loop-certificate : goal.invariant-loop-certificate
invariant-loop-certificate l = AreSorted l.certificates l.rest l.members

abbrev pub decreases-loop-certificate : goal.decreases-loop-certificate
decreases-loop-certificate l = length l.rest
