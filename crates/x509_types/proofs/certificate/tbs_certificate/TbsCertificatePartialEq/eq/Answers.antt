use Rattle.std.proofs.Common.{rules}
use Rattle.x509_types.specs.TbsCertificate.{IsTbsCertificate, tbs_certificate, inner_tbs, tbs_octets}
use Rattle.x509_types.specs.Facts.Extensions.{writable_decide}
use Rattle.x509_types.specs.Facts.DeterminedExtensions.{decided_by_octets}
use Rattle.x509_types.specs.Facts.TbsCertificates.{tbs_certificates, tbs_by_octets}
use Rattle.x509_types.proofs.certificate.tbs_certificate.TbsCertificatePartialEq.eq.Goals as goal

pub returns-then-eq-5-clause-compared : goal.returns-then-eq-5-clause-compared
returns-then-eq-5-clause-compared c = decided_by_octets tbs_octets tbs_by_octets c.args.self.now c.args.other.now _ (search rules)

pub returns-then-eq-5-clause-octets : goal.returns-then-eq-5-clause-octets
returns-then-eq-5-clause-octets c =
    writable_decide IsTbsCertificate tbs_certificate inner_tbs tbs_certificates c.args.self.now c.args.other.now _ (search rules)

pub returns-else-eq-5-clause-compared : goal.returns-else-eq-5-clause-compared
returns-else-eq-5-clause-compared c = decided_by_octets tbs_octets tbs_by_octets c.args.self.now c.args.other.now _ (search rules)

pub returns-else-eq-5-clause-octets : goal.returns-else-eq-5-clause-octets
returns-else-eq-5-clause-octets c =
    writable_decide IsTbsCertificate tbs_certificate inner_tbs tbs_certificates c.args.self.now c.args.other.now _ (search rules)
