use Rattle.cms_types.proofs.SignerLaws.{choice_of}
use Rattle.cms_types.proofs.signed_data.certificate_choices.CertificateChoicesStructure.has_shape.Goals as goal

pub returns-clause-fits : goal.returns-clause-fits
returns-clause-fits c = λ w. choice_of (record { element = c.args._elem.is.0; der = c.args._elem.is.1.0 })
