use Rattle.std.proofs.Common.{arith}
use Rattle.name_types.proofs.DecidedNames.{names_or_not}
use Rattle.x509_types.specs.Facts.ExtensionViews.{told_value, told_none}
use Rattle.x509_types.proofs.extension.view.ExtensionView.has_value.Goals as goal

pub returns-clause-fits : goal.returns-clause-fits
returns-clause-fits c = told_value _ _ _ (names_or_not _ (λ i. omega (arith, c.type_inv.octets i))) c.fits_kind.ensures

pub returns-clause-unfit : goal.returns-clause-unfit
returns-clause-unfit c = told_none _ _ _ c.fits_kind.ensures
