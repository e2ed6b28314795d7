use Rattle.cms_types.proofs.SignerLaws.{value_of_data, data_of_value, no_value}
use Rattle.cms_types.proofs.signed_data.SignedDataStructure.has_shape.Goals as goal

pub returns-clause-fits : goal.returns-clause-fits
returns-clause-fits c = λ w. value_of_data _ c.args.elem.is.1.0 (c.is_signed_data.ensures.fits w)

pub returns-clause-unfit : goal.returns-clause-unfit
returns-clause-unfit c = λ no value is. no_value (data_of_value _ value is) (c.is_signed_data.ensures.unfit no)
