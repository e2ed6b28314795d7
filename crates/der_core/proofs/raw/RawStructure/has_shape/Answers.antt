use Rattle.std.proofs.Common.{refl}
use Rattle.der_core.proofs.raw.RawStructure.has_shape.Goals as goal

pub returns-clause-fits : goal.returns-clause-fits
returns-clause-fits c = λ w. (record { element = c.args._elem.is.0; der = c.args._elem.is.1.0 }, refl)
