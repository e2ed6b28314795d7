use Rattle.name_types.specs.Name.{relative_distinguished_name}
use Rattle.der_core.specs.Facts.Lists.{printed_list, list_printed}
use Rattle.name_types.proofs.name.NameStructure.has_shape.Goals as goal

pub returns-clause-fits : goal.returns-clause-fits
returns-clause-fits c = λ t. let fit = c.has_list.ensures.fits t in (fit.0, printed_list relative_distinguished_name 0x30 _ fit.0 fit.1)

pub returns-clause-unfit : goal.returns-clause-unfit
returns-clause-unfit c = λ no values is. c.has_list.ensures.unfit no values (list_printed relative_distinguished_name 0x30 _ values is)
