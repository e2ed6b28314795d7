-- SpcAttributeTypeAndOptionalValue ::= SEQUENCE { type OBJECT IDENTIFIER, value ANY DEFINED BY type
-- OPTIONAL } (Windows Authenticode Portable Executable Signature Format, whose programs write the
-- value without the tag that its text has)
use Rattle.std.specs.Prelude.{◌∷◌, Option, option_to_list}
use Rattle.der_core.specs.DerElement.{DerElement}
use Rattle.der_core.specs.Elements.{sequence}
use Rattle.der_core.specs.BorrowedOption.{kept_option}
use Rattle.asn1_types.specs.Elements.{object_identifier}
use Rattle.cms_content.specs.declared.spc_attribute.SpcAttributeTypeAndOptionalValue.{SpcAttributeTypeAndOptionalValue}

-- by the elements of its fields
abbrev pub spc_attribute_of : (ty : DerElement) (value : Option DerElement) → DerElement
spc_attribute_of ty value = sequence (ty ∷ option_to_list value)

-- the element of a type with its value
abbrev pub spc_attribute : SpcAttributeTypeAndOptionalValue → DerElement
spc_attribute attribute =
    spc_attribute_of (object_identifier attribute.ty) (kept_option attribute.value)
