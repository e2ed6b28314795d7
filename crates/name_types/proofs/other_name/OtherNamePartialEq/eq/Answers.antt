use Rattle.std.proofs.Common.{◌≡◌, ◌↔◌, IsTrue, Bool, rules}
use Rattle.std.specs.Prelude.{bytes_eq}
use Rattle.der_core.specs.Encoding.{encoding}
use Rattle.der_core.specs.Facts.Equality.{octets_decide}
use Rattle.name_types.specs.GeneralName.{other_name}
use Rattle.name_types.specs.Facts.GeneralNames.{other_names, other_names_once}
use Rattle.name_types.specs.declared.other_name.OtherName.{OtherName}
use Rattle.name_types.proofs.other_name.OtherNamePartialEq.eq.Goals as goal

by_octets : (a b : OtherName) (t : Bool) → (IsTrue t ↔ (a ≡ b)) → t ≡ bytes_eq (encoding (other_name a)) (encoding (other_name b))
by_octets = octets_decide other_name other_names_once other_names.formed

pub returns-then-eq-clause-octets : goal.returns-then-eq-clause-octets
returns-then-eq-clause-octets c = by_octets c.args.self.now c.args.other.now _ (search rules)

pub returns-else-eq-clause-octets : goal.returns-else-eq-clause-octets
returns-else-eq-clause-octets c = by_octets c.args.self.now c.args.other.now _ (search rules)
