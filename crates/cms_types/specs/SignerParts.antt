-- The fields of a signer in two parts that are read and copied one after the other (RFC 5652 5.3).
use Rattle.der_core.specs.Each.{IsListOf, Prints}
use Rattle.der_core.specs.Optional.{SpellsOption}
use Rattle.cms_types.specs.Levels.{IsSignerIdentifier, IsAlgorithm, IsOctetString}
use Rattle.cms_types.specs.SignedAttributesElement.{signed_attributes}
use Rattle.cms_types.specs.SignerElements.{SignerElements}
use Rattle.cms_types.specs.UnsignedAttribute.{unsigned_attribute}
use Rattle.cms_types.specs.declared.signer_info.SignerInfo.{SignerInfo}
use Rattle.cms_types.specs.declared.signer_info.parts.SignatureFields.{SignatureFields}
use Rattle.cms_types.specs.declared.signer_info.parts.SignedBy.{SignedBy}
use Rattle.cms_types.specs.declared.version.CmsVersion.{CmsVersion}

-- Each element encodes its field of the first part.
pub record AreSignedByFields (f : SignerElements) (part : SignedBy) : Type 0 where
  pub sid : IsSignerIdentifier f.sid part.sid
  pub digest_algorithm : IsAlgorithm f.digest_algorithm part.digest_algorithm
  pub signature_algorithm : IsAlgorithm f.signature_algorithm part.signature_algorithm

-- Each element encodes its field of the second part.
pub record AreSignatureFields (f : SignerElements) (part : SignatureFields) : Type 0 where
  pub signed_attrs : SpellsOption (Prints signed_attributes) f.signed_attrs part.signed_attrs
  pub signature : IsOctetString f.signature part.signature
  pub unsigned_attrs : SpellsOption (IsListOf 0xA1 (Prints unsigned_attribute)) f.unsigned_attrs
      part.unsigned_attrs

-- the first part of a signer
abbrev pub signed_by : SignerInfo → SignedBy
signed_by signer = record {
  sid = signer.sid;
  digest_algorithm = signer.digest_algorithm;
  signature_algorithm = signer.signature_algorithm;
}

-- the second part of a signer
abbrev pub signature_fields : SignerInfo → SignatureFields
signature_fields signer = record {
  signed_attrs = signer.signed_attrs;
  signature = signer.signature;
  unsigned_attrs = signer.unsigned_attrs;
}

-- the signer with this version and these parts
abbrev pub signer_of_parts : CmsVersion → SignedBy → SignatureFields → SignerInfo
signer_of_parts version by signed = record {
  version = version;
  sid = by.sid;
  digest_algorithm = by.digest_algorithm;
  signed_attrs = signed.signed_attrs;
  signature_algorithm = by.signature_algorithm;
  signature = signed.signature;
  unsigned_attrs = signed.unsigned_attrs;
}
