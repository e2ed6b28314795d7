use Rattle.der_core.proofs.Exact.{no_fault_where_whole}
use Rattle.der_core.proofs.Values.{within_here}
use Rattle.der_core.proofs.within.has_within.Goals as goal

pub returns-in-Ok-clause-fits : goal.returns-in-Ok-clause-fits
returns-in-Ok-clause-fits g c = λ w. let fit = c.has_shape.ensures.fits w in
    (fit.0, record { element = c.in-Ok.elem.is.0; der = c.in-Ok.elem.is.1.0; encoded = c.in-Ok.ensures; spelled = fit.1 })

pub returns-in-Ok-clause-unfit : goal.returns-in-Ok-clause-unfit
returns-in-Ok-clause-unfit g c =
    λ no value within. c.has_shape.ensures.unfit no value (within_here g.T.Structure.spells _ _ value c.in-Ok.elem.is.1.0 c.in-Ok.ensures within)

pub returns-in-Err-clause-unfit : goal.returns-in-Err-clause-unfit
returns-in-Err-clause-unfit g c = λ no value within. no_fault_where_whole _ within.element _ _ within.der within.encoded c.in-Err.ensures
