use Rattle.x509_types.specs.ExtensionView.{view_octets}
use Rattle.x509_types.specs.Facts.ExtensionViews.{views_by_octets}
use Rattle.x509_types.specs.Facts.DeterminedExtensions.{decided_by_octets}
use Rattle.x509_types.proofs.extension.view.ExtensionViewPartialEq.eq.Goals as goal

pub returns-clause-octets : goal.returns-clause-octets
returns-clause-octets c = decided_by_octets view_octets views_by_octets _ _ _ c.has_same_value.ensures
