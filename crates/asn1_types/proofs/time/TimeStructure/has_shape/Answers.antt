use Rattle.asn1_types.specs.declared.time.Time.TheVariants as forms
use Rattle.asn1_types.proofs.time.TimeStructure.has_shape.Goals as goal

pub returns-then-has_shape-clause-fits : goal.returns-then-has_shape-clause-fits
returns-then-has_shape-clause-fits c = λ w. let fit = c.has_shape.ensures.fits w in (forms.Utc fit.0, fit.1)

pub returns-else-has_shape-clause-fits : goal.returns-else-has_shape-clause-fits
returns-else-has_shape-clause-fits c = λ w. let fit = c.has_shape-else-has_shape.ensures.fits w in (forms.Generalized fit.0, fit.1)
