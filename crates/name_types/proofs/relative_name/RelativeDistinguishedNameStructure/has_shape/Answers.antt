use Rattle.name_types.specs.Name.{attribute_type_and_value}
use Rattle.der_core.specs.Facts.Lists.{printed_list, list_printed}
use Rattle.name_types.proofs.relative_name.RelativeDistinguishedNameStructure.has_shape.Goals as goal

pub returns-clause-fits : goal.returns-clause-fits
returns-clause-fits c = λ t. let fit = c.has_list.ensures.fits t in (fit.0, printed_list attribute_type_and_value 0x31 _ fit.0 fit.1)

pub returns-clause-unfit : goal.returns-clause-unfit
returns-clause-unfit c = λ no values is. c.has_list.ensures.unfit no values (list_printed attribute_type_and_value 0x31 _ values is)
