use Rattle.key_core.specs.declared.private_key_value.PrivateKeyValue.TheVariants as values
use Rattle.key_core.proofs.Within.{rsa_of, ec_of, ed_of, of_rsa, of_ec, of_ed}
use Rattle.key_core.proofs.private_key_value.PrivateKeyValue.is_of.Goals as goal

pub returns-in-Rsa-clause-fits : goal.returns-in-Rsa-clause-fits
returns-in-Rsa-clause-fits c = λ w. let fit = c.has_within.ensures.fits w in (values.Rsa fit.0, rsa_of _ _ c.in-Rsa.is fit.0 fit.1)

pub returns-in-Rsa-clause-unfit : goal.returns-in-Rsa-clause-unfit
returns-in-Rsa-clause-unfit c = λ none key of. let k = of_rsa _ _ c.in-Rsa.is key of in c.has_within.ensures.unfit none k.0 k.1

pub returns-in-Ec-clause-fits : goal.returns-in-Ec-clause-fits
returns-in-Ec-clause-fits c = λ w. let fit = c.has_within-in-Ec.ensures.fits w in (values.Ec fit.0, ec_of _ _ c.in-Ec.is fit.0 fit.1)

pub returns-in-Ec-clause-unfit : goal.returns-in-Ec-clause-unfit
returns-in-Ec-clause-unfit c = λ none key of. let k = of_ec _ _ c.in-Ec.is key of in c.has_within-in-Ec.ensures.unfit none k.0 k.1

pub returns-in-Ed-clause-fits : goal.returns-in-Ed-clause-fits
returns-in-Ed-clause-fits c = λ w. let fit = c.has_within-in-Ed.ensures.fits w in (values.Ed fit.0, ed_of _ _ c.in-Ed.is fit.0 fit.1)

pub returns-in-Ed-clause-unfit : goal.returns-in-Ed-clause-unfit
returns-in-Ed-clause-unfit c = λ none key of. let k = of_ed _ _ c.in-Ed.is key of in c.has_within-in-Ed.ensures.unfit none k.0 k.1
