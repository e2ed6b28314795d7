use Rattle.std.proofs.Common.{rules}
use Rattle.x509_types.specs.Certificate.{IsCertificate, certificate, inner_certificate, certificate_octets}
use Rattle.x509_types.specs.Facts.Extensions.{writable_decide}
use Rattle.x509_types.specs.Facts.DeterminedExtensions.{decided_by_octets}
use Rattle.x509_types.specs.Facts.Certificates.{certificates, certificates_by_octets}
use Rattle.x509_types.proofs.certificate.CertificatePartialEq.eq.Goals as goal

pub returns-then-eq-2-clause-compared : goal.returns-then-eq-2-clause-compared
returns-then-eq-2-clause-compared c = decided_by_octets certificate_octets certificates_by_octets c.args.self.now c.args.other.now _ (search rules)

pub returns-then-eq-2-clause-octets : goal.returns-then-eq-2-clause-octets
returns-then-eq-2-clause-octets c = writable_decide IsCertificate certificate inner_certificate certificates c.args.self.now c.args.other.now _ (search rules)

pub returns-else-eq-2-clause-compared : goal.returns-else-eq-2-clause-compared
returns-else-eq-2-clause-compared c = decided_by_octets certificate_octets certificates_by_octets c.args.self.now c.args.other.now _ (search rules)

pub returns-else-eq-2-clause-octets : goal.returns-else-eq-2-clause-octets
returns-else-eq-2-clause-octets c = writable_decide IsCertificate certificate inner_certificate certificates c.args.self.now c.args.other.now _ (search rules)
