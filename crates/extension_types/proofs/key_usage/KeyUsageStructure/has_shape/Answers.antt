use Rattle.extension_types.proofs.key_usage.KeyUsageStructure.has_shape.Goals as goal

pub returns-clause-fits : goal.returns-clause-fits
returns-clause-fits c = λ t. let fit = c.has_shape.ensures.fits t in (record { bits = fit.0 }, fit.1)
