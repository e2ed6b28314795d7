use Rattle.der_core.specs.Facts.Equality.{octets_decide}
use Rattle.name_types.specs.Facts.GeneralNames.{general_name_forms}
use Rattle.names_core.specs.GeneralName.{raw_name, named_element}
use Rattle.names_core.proofs.RawNames.{named_once}
use Rattle.names_core.proofs.general_name.GeneralNamePartialEq.eq.Goals as goal

pub returns-clause-octets : goal.returns-clause-octets
returns-clause-octets c =
    octets_decide named_element named_once (λ name. general_name_forms.formed (raw_name name)) c.args.self.now c.args.other.now _ c.is_same.ensures
