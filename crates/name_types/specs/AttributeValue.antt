-- AttributeValue ::= ANY (RFC 5280 4.1.2.4): a string of a known type, or any other element
use Rattle.der_core.specs.DerElement.{DerElement}
use Rattle.asn1_types.specs.Elements.{ia5_string}
use Rattle.name_types.specs.DirectoryString.{directory_string}
use Rattle.name_types.specs.declared.attribute_value.AttributeValue.{AttributeValue}
use Rattle.name_types.specs.declared.attribute_value.AttributeValue.TheVariants as values

-- the element of a value
abbrev pub attribute_value : AttributeValue → DerElement
attribute_value (values.DirectoryString string) = directory_string string
attribute_value (values.Ia5String string) = ia5_string string
attribute_value (values.Other other) = other.element.element
