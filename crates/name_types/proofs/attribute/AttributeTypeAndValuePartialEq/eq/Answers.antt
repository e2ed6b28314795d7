use Rattle.std.proofs.Common.{refl, rules}
use Rattle.der_core.specs.Facts.Equality.{octets_decide}
use Rattle.name_types.specs.Name.{attribute_type_and_value}
use Rattle.name_types.specs.Facts.Names.{attributes}
use Rattle.name_types.proofs.attribute.AttributeTypeAndValuePartialEq.eq.Goals as goal

pub returns-then-eq-clause-octets : goal.returns-then-eq-clause-octets
returns-then-eq-clause-octets c = octets_decide attribute_type_and_value (λ a b e. attributes.once (attribute_type_and_value a) a b refl e)
    attributes.formed c.args.self.now c.args.other.now _ (search rules)

pub returns-else-eq-clause-octets : goal.returns-else-eq-clause-octets
returns-else-eq-clause-octets c = octets_decide attribute_type_and_value (λ a b e. attributes.once (attribute_type_and_value a) a b refl e)
    attributes.formed c.args.self.now c.args.other.now _ (search rules)
