-- How the written encoding of an attribute may differ from the one that was read: in the extensions
-- that it requests.
use Rattle.std.specs.Prelude.{◌≡◌, [], ◌∷◌}
use Rattle.der_core.specs.DerElement.{DerElement}
use Rattle.der_core.specs.Each.{IsListOf}
use Rattle.der_core.specs.Elements.{sequence}
use Rattle.asn1_types.specs.Elements.{object_identifier}
use Rattle.x509_types.specs.AttributeValues.{attribute_values}
use Rattle.x509_types.specs.ExtensionSpellings.{IsSpelling}
use Rattle.x509_types.specs.declared.attribute.Attribute.{Attribute}
use Rattle.x509_types.specs.declared.attribute.values.AttributeValues.{AttributeValues}
use Rattle.x509_types.specs.declared.attribute.values.AttributeValues.TheVariants as variants

-- the element of the values is the one that is written, but for the encodings of extensions, index
-- by index
abbrev pub AreSpelling : DerElement → AttributeValues → Type 0
AreSpelling element (variants.ContentType types) =
    element ≡ attribute_values (variants.ContentType types)
AreSpelling element (variants.MessageDigest digests) =
    element ≡ attribute_values (variants.MessageDigest digests)
AreSpelling element (variants.Extensions requests) =
    IsListOf 0x31 (IsListOf 0x30 IsSpelling) element requests
AreSpelling element (variants.Raw kept) = element ≡ attribute_values (variants.Raw kept)

-- The element is the one that is written for the attribute, but for that.
pub record IsAttributeSpelling (element : DerElement) (a : Attribute) : Type 0 where
  pub values : DerElement
  pub is : element ≡ sequence (object_identifier a.ty ∷ values ∷ [])
  pub alike : AreSpelling values a.value
