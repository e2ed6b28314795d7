use Rattle.std.proofs.Common.{◌≡◌, ◌↔◌, IsTrue, refl}
use Rattle.std.specs.Prelude.{bytes_eq}
use Rattle.der_core.specs.Encoding.{encoding}
use Rattle.der_core.specs.Facts.Equality.{octets_decide, octets_same}
use Rattle.name_types.specs.declared.attribute.AttributeTypeAndValue.{AttributeTypeAndValue}
use Rattle.name_types.specs.Name.{attribute_type_and_value, relative_distinguished_name}
use Rattle.name_types.specs.Facts.Names.{relative_distinguished_names, attributes}
use Rattle.der_core.specs.Facts.Lists.{lists_equal}
use Rattle.name_types.proofs.relative_name.RelativeDistinguishedNamePartialEq.eq.Goals as goal

one : (a b : AttributeTypeAndValue) → IsTrue (bytes_eq (encoding (attribute_type_and_value a)) (encoding (attribute_type_and_value b))) ↔ (a ≡ b)
one = octets_same attribute_type_and_value (λ a b e. attributes.once (attribute_type_and_value a) a b refl e) attributes.formed

pub returns-clause-same : goal.returns-clause-same
returns-clause-same c = lists_equal _ one _ _ _ _ _ c.self.view_is c.other.view_is c.eq.ensures

pub returns-clause-octets : goal.returns-clause-octets
returns-clause-octets c = octets_decide relative_distinguished_name (λ a b e. relative_distinguished_names.once (relative_distinguished_name a) a b refl e)
    relative_distinguished_names.formed _ _ _ (lists_equal _ one _ _ _ _ _ c.self.view_is c.other.view_is c.eq.ensures)
