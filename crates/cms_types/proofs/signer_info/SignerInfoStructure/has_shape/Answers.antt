use Rattle.cms_types.proofs.SignerLaws.{value_of_signer, signer_of_value, no_value}
use Rattle.cms_types.proofs.signer_info.SignerInfoStructure.has_shape.Goals as goal

pub returns-clause-fits : goal.returns-clause-fits
returns-clause-fits c = λ w. value_of_signer _ c.args.elem.is.1.0 (c.is_signer_info.ensures.fits w)

pub returns-clause-unfit : goal.returns-clause-unfit
returns-clause-unfit c = λ no value is. no_value (signer_of_value _ value is) (c.is_signer_info.ensures.unfit no)
