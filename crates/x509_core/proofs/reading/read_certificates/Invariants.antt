use Rattle.std.proofs.Common.{map, length}
use Rattle.x509_core.proofs.ReadCertificates.{AreReadSoFar}
use Rattle.x509_core.proofs.reading.read_certificates.Given as goal

abbrev pub invariant-loop-first : goal.invariant-loop-first
invariant-loop-first l = AreReadSoFar (map (λ octets. octets.items) l.octets) (map (λ octets. octets.items) l.rest) l.certificates.items

abbrev pub decreases-loop-first : goal.decreases-loop-first
decreases-loop-first l = length l.rest
