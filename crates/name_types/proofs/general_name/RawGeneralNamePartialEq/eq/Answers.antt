use Rattle.der_core.specs.Facts.Equality.{octets_decide}
use Rattle.name_types.specs.GeneralName.{general_name}
use Rattle.name_types.specs.Facts.GeneralNames.{general_name_forms, forms_once}
use Rattle.name_types.proofs.general_name.RawGeneralNamePartialEq.eq.Goals as goal

pub returns-clause-octets : goal.returns-clause-octets
returns-clause-octets c = octets_decide general_name forms_once general_name_forms.formed c.args.self.now c.args.other.now _ c.is_same.ensures
