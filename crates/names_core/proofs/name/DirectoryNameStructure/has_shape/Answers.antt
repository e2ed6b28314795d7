use Rattle.names_core.proofs.name.DirectoryNameStructure.has_shape.Goals as goal

pub returns-clause-fits : goal.returns-clause-fits
returns-clause-fits c = λ w. let fit = c.has_shape.ensures.fits w in (record { name = fit.0 }, fit.1)
