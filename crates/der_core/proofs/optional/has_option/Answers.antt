use Rattle.std.proofs.Common.{Some, ap}
use Rattle.der_core.specs.BorrowedOption.{at_option}
use Rattle.der_core.specs.Facts.Optional.{some_spells}
use Rattle.der_core.proofs.optional.has_option.Goals as goal

pub returns-in-Some-clause-fits : goal.returns-in-Some-clause-fits
returns-in-Some-clause-fits g c = λ w. let fit = c.has_shape.ensures.fits w in (Some fit.0, some_spells _ _ _ fit.0 (ap at_option c.in-Some.is) fit.1)
