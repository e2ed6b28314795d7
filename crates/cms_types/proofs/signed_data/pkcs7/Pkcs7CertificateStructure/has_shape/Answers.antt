use Rattle.cms_types.proofs.SignerLaws.{value_of_pkcs7, pkcs7_of_value, no_value}
use Rattle.cms_types.proofs.signed_data.pkcs7.Pkcs7CertificateStructure.has_shape.Goals as goal

pub returns-clause-fits : goal.returns-clause-fits
returns-clause-fits c = λ w. value_of_pkcs7 _ c.args.elem.is.1.0 (c.is_pkcs7.ensures.fits w)

pub returns-clause-unfit : goal.returns-clause-unfit
returns-clause-unfit c = λ no value is. no_value (pkcs7_of_value _ value is) (c.is_pkcs7.ensures.unfit no)
