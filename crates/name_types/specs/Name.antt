-- Name ::= CHOICE { rdnSequence RDNSequence } (RFC 5280 4.1.2.4)
use Rattle.std.specs.Prelude.{◌≡◌, List, [], ◌∷◌}
use Rattle.der_core.specs.DerElement.{DerElement}
use Rattle.der_core.specs.Each.{list_element}
use Rattle.der_core.specs.Elements.{sequence}
use Rattle.asn1_types.specs.Elements.{object_identifier}
use Rattle.name_types.specs.AttributeValue.{attribute_value}
use Rattle.name_types.specs.declared.attribute.AttributeTypeAndValue.{AttributeTypeAndValue}

-- AttributeTypeAndValue ::= SEQUENCE { type AttributeType, value AttributeValue }, AttributeType
-- ::= OBJECT IDENTIFIER
abbrev pub attribute_type_and_value : AttributeTypeAndValue → DerElement
attribute_type_and_value attribute =
    sequence (object_identifier attribute.ty ∷ attribute_value attribute.value ∷ [])

-- RelativeDistinguishedName ::= SET SIZE (1..MAX) OF AttributeTypeAndValue; an empty one is
-- accepted, too
abbrev pub relative_distinguished_name : List AttributeTypeAndValue → DerElement
relative_distinguished_name = list_element 0x31 attribute_type_and_value

-- RDNSequence ::= SEQUENCE OF RelativeDistinguishedName
abbrev pub name : List (List AttributeTypeAndValue) → DerElement
name = list_element 0x30 relative_distinguished_name

-- Elements encode attributes, sets and names if they are those that are written for them.
abbrev pub IsRelativeDistinguishedName : DerElement → List AttributeTypeAndValue → Type 0
IsRelativeDistinguishedName element members = element ≡ relative_distinguished_name members

-- the element is a name with these sets
abbrev pub IsName : DerElement → List (List AttributeTypeAndValue) → Type 0
IsName element sets = element ≡ name sets
