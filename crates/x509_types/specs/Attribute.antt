-- Attribute ::= SEQUENCE { type OBJECT IDENTIFIER, values SET OF ANY } (RFC 2986 4.1, RFC 5652
-- 5.3), and attributes in a set
use Rattle.std.specs.Prelude.{◌≡◌, ℕ, List, [], ◌∷◌, ◌++◌, flat_map}
use Rattle.der_core.specs.DerElement.{DerElement}
use Rattle.der_core.specs.Each.{IsListOf, list_element}
use Rattle.der_core.specs.Elements.{sequence}
use Rattle.der_core.specs.Encoding.{encoding}
use Rattle.asn1_types.specs.Elements.{object_identifier}
use Rattle.x509_types.specs.AttributeValues.{attribute_values, asked_kinds, inner_values, AreAttributeValues}
use Rattle.x509_types.specs.declared.attribute.Attribute.{Attribute}

-- the element that is written
abbrev pub attribute : Attribute → DerElement
attribute a = sequence (object_identifier a.ty ∷ attribute_values a.value ∷ [])

-- The element encodes the attribute.
pub record IsAttribute (element : DerElement) (a : Attribute) : Type 0 where
  pub values : DerElement
  pub is : element ≡ sequence (object_identifier a.ty ∷ values ∷ [])
  pub spelled : AreAttributeValues values a.value

-- [0] IMPLICIT SET OF Attribute of a request (RFC 2986 4.1) and of a signer (RFC 5652 5.3): each
-- member encodes the attribute at its index
abbrev pub AreAttributes : DerElement → List Attribute → Type 0
AreAttributes = IsListOf 0xA0 IsAttribute

-- the element that is written for them
abbrev pub attribute_list : List Attribute → DerElement
attribute_list = list_element 0xA0 attribute

-- what they wrap in strings
abbrev pub inner_attributes : List Attribute → List DerElement
inner_attributes = flat_map (λ a. inner_values a.value)

-- the kinds of the extension values in it, and its encoding
abbrev pub attribute_octets : Attribute → List ℕ
attribute_octets a = asked_kinds a.value ++ encoding (attribute a)
