use Rattle.name_types.proofs.Elements.{value_at}
use Rattle.name_types.proofs.attribute_value.AttributeValueStructure.has_shape.Goals as goal

pub returns-clause-fits : goal.returns-clause-fits
returns-clause-fits c = λ w. value_at _ _ _ _ c.args._elem.is.1
