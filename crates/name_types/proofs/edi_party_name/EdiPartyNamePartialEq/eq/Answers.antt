use Rattle.std.proofs.Common.{◌≡◌, ◌↔◌, IsTrue, Bool, rules}
use Rattle.std.specs.Prelude.{bytes_eq}
use Rattle.der_core.specs.Encoding.{encoding}
use Rattle.der_core.specs.Facts.Equality.{octets_decide}
use Rattle.name_types.specs.GeneralName.{edi_party_name}
use Rattle.name_types.specs.Facts.GeneralNames.{edi_party_names, edi_party_names_once}
use Rattle.name_types.specs.declared.edi_party_name.EdiPartyName.{EdiPartyName}
use Rattle.name_types.proofs.Parties.{by_party}
use Rattle.name_types.proofs.edi_party_name.EdiPartyNamePartialEq.eq.Goals as goal

by_octets : (a b : EdiPartyName) (t : Bool) → (IsTrue t ↔ (a ≡ b)) → t ≡ bytes_eq (encoding (edi_party_name a)) (encoding (edi_party_name b))
by_octets = octets_decide edi_party_name edi_party_names_once edi_party_names.formed

pub returns-then-eq-clause-same : goal.returns-then-eq-clause-same
returns-then-eq-clause-same c = by_party c.args.self.now c.args.other.now _ _ c.eq.ensures c.if-eq.true c.eq-then-eq.ensures.same

pub returns-then-eq-clause-octets : goal.returns-then-eq-clause-octets
returns-then-eq-clause-octets c = by_octets c.args.self.now c.args.other.now _ (returns-then-eq-clause-same c)

pub returns-else-eq-clause-octets : goal.returns-else-eq-clause-octets
returns-else-eq-clause-octets c = by_octets c.args.self.now c.args.other.now _ (search rules)
