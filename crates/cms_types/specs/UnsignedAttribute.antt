-- The element that is written for an unsigned attribute (RFC 5652 5.3, 11.4).
use Rattle.std.specs.Prelude.{List}
use Rattle.der_core.specs.DerElement.{DerElement}
use Rattle.asn1_types.specs.Values.{identifier_contents}
use Rattle.asn1_types.specs.declared.oids.TheConstants.{COUNTERSIGNATURE, RFC3161_COUNTER_SIGN}
use Rattle.cms_types.specs.Members.{elements_of_kept}
use Rattle.cms_types.specs.AttributeElement.{attribute_of}
use Rattle.cms_types.specs.declared.unsigned_attribute.UnsignedAttribute.{UnsignedAttribute}
use Rattle.cms_types.specs.declared.unsigned_attribute.UnsignedAttribute.TheVariants as attributes
use Rattle.cms_types.specs.declared.unsigned_attribute.signer_values.SignerValues.{SignerValues}

-- the values of an attribute are written as they are stored
abbrev pub unsigned_attribute : UnsignedAttribute → DerElement
unsigned_attribute (attributes.CounterSign values) =
    attribute_of COUNTERSIGNATURE.now (elements_of_kept values.items)
unsigned_attribute (attributes.MsCounterSign values) =
    attribute_of RFC3161_COUNTER_SIGN.now (elements_of_kept values.items)
unsigned_attribute (attributes.Raw attribute) =
    attribute_of (identifier_contents attribute.ty) (elements_of_kept attribute.values)

-- the elements of signers that are stored as values
abbrev pub signer_values : SignerValues → List DerElement
signer_values values = elements_of_kept values.items
