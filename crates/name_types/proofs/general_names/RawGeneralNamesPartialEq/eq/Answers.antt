use Rattle.std.proofs.Common.{◌≡◌, ◌↔◌, IsTrue, refl}
use Rattle.std.specs.Prelude.{bytes_eq}
use Rattle.der_core.specs.Encoding.{encoding}
use Rattle.der_core.specs.Facts.Equality.{octets_decide, octets_same}
use Rattle.name_types.specs.declared.general_name.RawGeneralName.{RawGeneralName}
use Rattle.name_types.specs.GeneralName.{general_name, general_names}
use Rattle.name_types.specs.Facts.GeneralNames.{general_name_forms, general_name_lists, forms_once}
use Rattle.der_core.specs.Facts.Lists.{lists_equal}
use Rattle.name_types.proofs.general_names.RawGeneralNamesPartialEq.eq.Goals as goal

one : (a b : RawGeneralName) → IsTrue (bytes_eq (encoding (general_name a)) (encoding (general_name b))) ↔ (a ≡ b)
one = octets_same general_name forms_once general_name_forms.formed

pub returns-clause-same : goal.returns-clause-same
returns-clause-same c = lists_equal _ one _ _ _ _ _ c.self.view_is c.other.view_is c.eq.ensures

pub returns-clause-octets : goal.returns-clause-octets
returns-clause-octets c = octets_decide general_names (λ a b e. general_name_lists.once (general_names a) a b refl e) general_name_lists.formed _ _ _
    (lists_equal _ one _ _ _ _ _ c.self.view_is c.other.view_is c.eq.ensures)
