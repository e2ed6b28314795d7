use Rattle.std.proofs.Common.{rules}
use Rattle.der_core.specs.Facts.Equality.{octets_decide}
use Rattle.x509_types.specs.Version.{version}
use Rattle.x509_types.specs.Facts.Versions.{versions, versions_once}
use Rattle.x509_types.proofs.certificate.version.VersionPartialEq.eq.Goals as goal

pub returns-clause-octets : goal.returns-clause-octets
returns-clause-octets c = octets_decide version versions_once versions.formed c.args.self.now c.args.other.now _ (search rules)
