use Rattle.std.proofs.Common.{append_assoc}
use Rattle.x509_core.proofs.error.CertErrorDisplay.fmt.Goals as goal

pub returns-in-InvalidCertificate-clause-writes : goal.returns-in-InvalidCertificate-clause-writes
returns-in-InvalidCertificate-clause-writes g c plain ok =
    rw c.in-InvalidCertificate.is (simp append_assoc (c.write-in-InvalidCertificate.ensures.writes plain ok))
