-- The text of a name.
use Rattle.std.specs.Prelude.{ℕ, if◌then◌else◌, Option, Some, None, List, [], ◌∷◌, ◌++◌, map, bytes_eq, codes}
use Rattle.std.specs.List.{join_with_byte}
use Rattle.hex.specs.Hex.{encode_lower}
use Rattle.der_core.specs.Encoding.{encoding}
use Rattle.asn1_types.specs.ObjectIdentifier.{dotted}
use Rattle.asn1_types.specs.Values.{arcs_of, ia5_contents}
use Rattle.name_types.specs.Text.{text_of}
use Rattle.name_types.specs.NameAttr.{attribute_type, attribute_descriptor}
use Rattle.name_types.specs.declared.name_attr.NameAttr.{NameAttr}
use Rattle.name_types.specs.declared.attribute_value.AttributeValue.{AttributeValue}
use Rattle.name_types.specs.declared.attribute_value.AttributeValue.TheVariants as values
use Rattle.name_types.specs.declared.attribute.AttributeTypeAndValue.{AttributeTypeAndValue}

-- emailAddress (RFC 2985 5.2.1)
abbrev pub email_address : List ℕ
email_address = 1 ∷ 2 ∷ 840 ∷ 113549 ∷ 1 ∷ 9 ∷ 1 ∷ []

-- the descriptor of a type that has one, else `EMAIL` or the dotted text
abbrev pub descriptor_or_dotted : Option NameAttr → List ℕ → List ℕ
descriptor_or_dotted (Some attr) arcs = attribute_descriptor attr
descriptor_or_dotted None arcs = if bytes_eq arcs email_address then codes "EMAIL" else dotted arcs

-- the descriptor of the attribute type with these arcs, or their dotted text
abbrev pub type_descriptor : List ℕ → List ℕ
type_descriptor arcs = descriptor_or_dotted (attribute_type arcs) arcs

-- a string's text, or the octets of another element after `#`
abbrev pub value_text : AttributeValue → List ℕ
value_text (values.DirectoryString string) = text_of string
value_text (values.Ia5String string) = ia5_contents string
value_text (values.Other other) = codes "#" ++ encode_lower (encoding other.element.element)

-- descriptor, `=` and value
abbrev pub attribute_text : AttributeTypeAndValue → List ℕ
attribute_text attribute =
    type_descriptor (arcs_of attribute.ty) ++ codes "=" ++ value_text attribute.value

-- the separator between sets
abbrev pub comma : ℕ
comma = 44

-- the separator between the members of a set
abbrev pub plus : ℕ
plus = 43

-- the members joined by `+`
abbrev pub set_text : List AttributeTypeAndValue → List ℕ
set_text members = join_with_byte plus (map attribute_text members)

-- the sets joined by `,`
abbrev pub name_text : List (List AttributeTypeAndValue) → List ℕ
name_text sets = join_with_byte comma (map set_text sets)
