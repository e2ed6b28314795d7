use Rattle.std.proofs.Common.{◌≡◌, ◌↔◌, IsTrue, refl, List}
use Rattle.std.specs.Prelude.{bytes_eq}
use Rattle.der_core.specs.Encoding.{encoding}
use Rattle.der_core.specs.Facts.Equality.{octets_decide, octets_same}
use Rattle.name_types.specs.declared.attribute.AttributeTypeAndValue.{AttributeTypeAndValue}
use Rattle.name_types.specs.Name.{relative_distinguished_name, name}
use Rattle.name_types.specs.Facts.Names.{names, relative_distinguished_names}
use Rattle.der_core.specs.Facts.Lists.{lists_equal}
use Rattle.name_types.proofs.name.NamePartialEq.eq.Goals as goal

one : (a b : List AttributeTypeAndValue) → IsTrue (bytes_eq (encoding (relative_distinguished_name a)) (encoding (relative_distinguished_name b))) ↔ (a ≡ b)
one = octets_same relative_distinguished_name (λ a b e. relative_distinguished_names.once (relative_distinguished_name a) a b refl e)
    relative_distinguished_names.formed

pub returns-clause-same : goal.returns-clause-same
returns-clause-same c = lists_equal _ one _ _ _ _ _ c.self.view_is c.other.view_is c.eq.ensures

pub returns-clause-octets : goal.returns-clause-octets
returns-clause-octets c =
    octets_decide name (λ a b e. names.once (name a) a b refl e) names.formed _ _ _ (lists_equal _ one _ _ _ _ _ c.self.view_is c.other.view_is c.eq.ensures)
