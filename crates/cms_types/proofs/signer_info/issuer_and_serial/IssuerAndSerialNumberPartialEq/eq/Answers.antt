use Rattle.std.proofs.Common.{rules}
use Rattle.cms_types.specs.SignerIdentifier.{issuer_and_serial_number}
use Rattle.cms_types.specs.Facts.SignerIdentifiers.{issuers_and_serials}
use Rattle.cms_types.proofs.Equal.{by_octets}
use Rattle.cms_types.proofs.signer_info.issuer_and_serial.IssuerAndSerialNumberPartialEq.eq.Goals as goal

pub returns-then-eq-clause-octets : goal.returns-then-eq-clause-octets
returns-then-eq-clause-octets c = by_octets issuer_and_serial_number issuers_and_serials c.args.self.now c.args.other.now _ (search rules)

pub returns-else-eq-clause-octets : goal.returns-else-eq-clause-octets
returns-else-eq-clause-octets c = by_octets issuer_and_serial_number issuers_and_serials c.args.self.now c.args.other.now _ (search rules)
