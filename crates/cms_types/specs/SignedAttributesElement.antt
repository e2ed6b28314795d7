-- Signed attributes, which are written as the element that they were read from.
use Rattle.std.specs.Prelude.{List}
use Rattle.der_core.specs.DerElement.{DerElement}
use Rattle.x509_types.specs.declared.attribute.Attribute.{Attribute}
use Rattle.cms_types.specs.declared.signer_info.signed_attributes.SignedAttributes.{SignedAttributes}

-- the element of signed attributes
abbrev pub signed_attributes : SignedAttributes → DerElement
signed_attributes value = value.element.element

-- The attributes, in the order of the element.
abbrev pub attributes_of : SignedAttributes → List Attribute
attributes_of value = value.list
