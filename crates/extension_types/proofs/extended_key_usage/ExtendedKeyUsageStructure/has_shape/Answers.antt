use Rattle.asn1_types.specs.Elements.{object_identifier}
use Rattle.der_core.specs.Facts.Lists.{printed_list, list_printed}
use Rattle.extension_types.proofs.extended_key_usage.ExtendedKeyUsageStructure.has_shape.Goals as goal

pub returns-clause-fits : goal.returns-clause-fits
returns-clause-fits c = λ t. let fit = c.has_list.ensures.fits t in (record { purposes = fit.0 }, printed_list object_identifier 0x30 _ fit.0 fit.1)

pub returns-clause-unfit : goal.returns-clause-unfit
returns-clause-unfit c = λ no usage is. c.has_list.ensures.unfit no usage.purposes (list_printed object_identifier 0x30 _ usage.purposes is)
