use Rattle.std.proofs.Common.{rules}
use Rattle.x509_types.specs.Validity.{validity}
use Rattle.x509_types.specs.Facts.Validities.{validities, validities_once}
use Rattle.x509_types.proofs.certificate.validity.ValidityPartialEq.eq.Goals as goal
use Rattle.der_core.specs.Facts.Equality.{octets_decide}

pub returns-then-eq-clause-octets : goal.returns-then-eq-clause-octets
returns-then-eq-clause-octets c = octets_decide validity validities_once validities.formed c.args.self.now c.args.other.now _ (search rules)

pub returns-else-eq-clause-octets : goal.returns-else-eq-clause-octets
returns-else-eq-clause-octets c = octets_decide validity validities_once validities.formed c.args.self.now c.args.other.now _ (search rules)
