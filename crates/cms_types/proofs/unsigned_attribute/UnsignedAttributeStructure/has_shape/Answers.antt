use Rattle.cms_types.proofs.SignerLaws.{value_of_unsigned, unsigned_of_value, no_value}
use Rattle.cms_types.proofs.unsigned_attribute.UnsignedAttributeStructure.has_shape.Goals as goal

pub returns-clause-fits : goal.returns-clause-fits
returns-clause-fits c = λ w. value_of_unsigned _ c.args.elem.is.1.0 (c.is_unsigned_attribute.ensures.fits w)

pub returns-clause-unfit : goal.returns-clause-unfit
returns-clause-unfit c = λ no value is. no_value (unsigned_of_value _ value is) (c.is_unsigned_attribute.ensures.unfit no)
