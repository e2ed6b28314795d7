-- The element that is written for a signer (RFC 5652 5.3).
use Rattle.std.specs.Option.{option_map}
use Rattle.der_core.specs.DerElement.{DerElement}
use Rattle.der_core.specs.Each.{IsListOf, list_element, Prints}
use Rattle.der_core.specs.Elements.{octet_string}
use Rattle.key_types.specs.AlgorithmIdentifier.{algorithm_identifier}
use Rattle.cms_types.specs.CmsVersion.{cms_version}
use Rattle.cms_types.specs.Levels.{IsCmsVersion, IsSignerIdentifier, IsAlgorithm, IsOctetString}
use Rattle.der_core.specs.Optional.{SpellsOption}
use Rattle.cms_types.specs.SignerIdentifier.{signer_identifier}
use Rattle.cms_types.specs.SignedAttributesElement.{signed_attributes}
use Rattle.cms_types.specs.SignerElements.{SignerElements, signer_of}
use Rattle.cms_types.specs.UnsignedAttribute.{unsigned_attribute}
use Rattle.cms_types.specs.declared.signer_info.SignerInfo.{SignerInfo}

-- the elements that are written for the fields
abbrev pub signer_elements : SignerInfo → SignerElements
signer_elements signer = record {
  version = cms_version signer.version;
  sid = signer_identifier signer.sid;
  digest_algorithm = algorithm_identifier signer.digest_algorithm;
  signed_attrs = option_map signed_attributes signer.signed_attrs;
  signature_algorithm = algorithm_identifier signer.signature_algorithm;
  signature = octet_string signer.signature;
  unsigned_attrs = option_map (list_element 0xA1 unsigned_attribute) signer.unsigned_attrs;
}

-- the element of a signer
abbrev pub signer_info : SignerInfo → DerElement
signer_info signer = signer_of (signer_elements signer)

-- Each element encodes its field.
pub record AreFieldsOf (f : SignerElements) (signer : SignerInfo) : Type 0 where
  pub version : IsCmsVersion f.version signer.version
  pub sid : IsSignerIdentifier f.sid signer.sid
  pub digest_algorithm : IsAlgorithm f.digest_algorithm signer.digest_algorithm
  pub signed_attrs : SpellsOption (Prints signed_attributes) f.signed_attrs signer.signed_attrs
  pub signature_algorithm : IsAlgorithm f.signature_algorithm signer.signature_algorithm
  pub signature : IsOctetString f.signature signer.signature
  pub unsigned_attrs : SpellsOption (IsListOf 0xA1 (Prints unsigned_attribute)) f.unsigned_attrs
      signer.unsigned_attrs
