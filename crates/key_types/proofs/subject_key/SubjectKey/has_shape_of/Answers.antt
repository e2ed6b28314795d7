use Rattle.std.proofs.Common.{sym}
use Rattle.key_types.specs.declared.subject_key.SubjectKey.TheVariants as keys
use Rattle.key_types.proofs.subject_key.SubjectKey.has_shape_of.Goals as goal

pub returns-in-Rsa-clause-fits : goal.returns-in-Rsa-clause-fits
returns-in-Rsa-clause-fits c = λ w. let fit = c.has_rsa_key.ensures.fits w in (keys.Rsa fit.0, (sym c.in-Rsa.is, fit.1))

pub returns-in-Ec-clause-fits : goal.returns-in-Ec-clause-fits
returns-in-Ec-clause-fits c = λ w. let fit = c.has_shape.ensures.fits w in (keys.Ec fit.0, (sym c.in-Ec.is, (fit.1, tt)))

pub returns-in-Ed-clause-fits : goal.returns-in-Ed-clause-fits
returns-in-Ed-clause-fits c = λ w. let fit = c.has_shape-in-Ed.ensures.fits w in (keys.Ed fit.0, (sym c.in-Ed.is, (fit.1, tt)))

pub returns-in-Mldsa-clause-fits : goal.returns-in-Mldsa-clause-fits
returns-in-Mldsa-clause-fits c = λ w. let fit = c.has_shape-in-Mldsa.ensures.fits w in (keys.Mldsa fit.0, (sym c.in-Mldsa.is, (fit.1, tt)))
