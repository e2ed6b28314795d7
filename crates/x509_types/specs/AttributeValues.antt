-- The values of attributes, a SET OF: SET { ANY } (RFC 2986 4.1, RFC 5652 5.3). ContentType ::=
-- OBJECT IDENTIFIER, MessageDigest ::= OCTET STRING (RFC 2985 5.3.1, 5.3.2), ExtensionRequest ::=
-- Extensions (RFC 2985 5.4.2).
use Rattle.std.specs.Prelude.{◌≡◌, ℕ, List, [], ◌∷◌, ◌++◌, flat_map, Some}
use Rattle.der_core.specs.DerElement.{DerElement}
use Rattle.der_core.specs.Elements.{octet_string}
use Rattle.der_core.specs.Encoding.{encoding}
use Rattle.der_core.specs.Each.{IsListOf, list_element, Prints}
use Rattle.der_core.specs.Owned.{KeptElement}
use Rattle.asn1_types.specs.Elements.{object_identifier}
use Rattle.x509_types.specs.Extension.{value_kinds}
use Rattle.x509_types.specs.TbsCertificate.{IsExtensions, extensions, inner_extensions}
use Rattle.x509_types.specs.AttributeKind.{attribute_number}
use Rattle.x509_types.specs.declared.attribute.kind.AttributeKind.{AttributeKind}
use Rattle.x509_types.specs.declared.attribute.kind.AttributeKind.TheVariants as kinds
use Rattle.x509_types.specs.declared.attribute.values.AttributeValues.{AttributeValues}
use Rattle.x509_types.specs.declared.attribute.values.AttributeValues.TheVariants as values

-- the kind of attributes that have such values
abbrev pub kind_of_values : AttributeValues → AttributeKind
kind_of_values (values.ContentType types) = kinds.ContentType
kind_of_values (values.MessageDigest digests) = kinds.MessageDigest
kind_of_values (values.Extensions requests) = kinds.ExtensionRequest
kind_of_values (values.Raw kept) = kinds.Other

-- the element that is written for values: the SET OF their elements, in the order given
abbrev pub attribute_values : AttributeValues → DerElement
attribute_values (values.ContentType types) = list_element 0x31 object_identifier types
attribute_values (values.MessageDigest digests) = list_element 0x31 octet_string digests
attribute_values (values.Extensions requests) = list_element 0x31 extensions requests
attribute_values (values.Raw kept) = list_element 0x31 (λ (k : KeptElement). k.element) kept

-- The element is a SET OF whose members encode the values, index by index.
abbrev pub AreAttributeValues : DerElement → AttributeValues → Type 0
AreAttributeValues element (values.ContentType types) =
    IsListOf 0x31 (Prints object_identifier) element types
AreAttributeValues element (values.MessageDigest digests) =
    IsListOf 0x31 (Prints octet_string) element digests
AreAttributeValues element (values.Extensions requests) =
    IsListOf 0x31 IsExtensions element requests
AreAttributeValues element (values.Raw kept) =
    IsListOf 0x31 (λ (kid : DerElement) (k : KeptElement). kid ≡ k.element) element kept

-- what the values wrap in strings: what extensions do
abbrev pub inner_values : AttributeValues → List DerElement
inner_values (values.ContentType types) = []
inner_values (values.MessageDigest digests) = []
inner_values (values.Extensions requests) = flat_map inner_extensions requests
inner_values (values.Raw kept) = []

-- the element holds the values, which are of the kind
abbrev pub AreValuesOf : AttributeKind → DerElement → AttributeValues → Type 0
AreValuesOf kind element vs = (kind_of_values vs ≡ kind) × AreAttributeValues element vs

-- the kinds of the values of the requested extensions, if there are any
abbrev pub asked_kinds : AttributeValues → List ℕ
asked_kinds (values.ContentType types) = []
asked_kinds (values.MessageDigest digests) = []
asked_kinds (values.Extensions requests) = flat_map (λ request. value_kinds (Some request)) requests
asked_kinds (values.Raw kept) = []

-- the kind of the values, the kinds of the extension values in them, and the octets of their
-- element
abbrev pub values_octets : AttributeValues → List ℕ
values_octets vs =
    attribute_number (kind_of_values vs) ∷ (asked_kinds vs ++ encoding (attribute_values vs))
