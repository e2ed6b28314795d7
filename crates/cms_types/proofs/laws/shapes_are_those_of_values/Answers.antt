use Rattle.std.proofs.Common.{refl}
use Rattle.cms_types.specs.Pkcs7.{pkcs7}
use Rattle.cms_types.specs.SignedData.{signed_data}
use Rattle.cms_types.specs.SignerInfo.{signer_info}
use Rattle.cms_types.specs.UnsignedAttribute.{unsigned_attribute}
use Rattle.cms_types.proofs.SignerLaws.{value_of_signer, signer_of_value, value_of_unsigned, unsigned_of_value}
use Rattle.cms_types.proofs.SignerLaws.{value_of_data, data_of_value, value_of_pkcs7, pkcs7_of_value}
use Rattle.cms_types.proofs.laws.shapes_are_those_of_values.Goals as goal

pub returns : goal.returns
returns c = record {
  signers = value_of_signer;
  of_signers = λ v. signer_of_value (signer_info v) v refl;
  attributes = value_of_unsigned;
  of_attributes = λ v. unsigned_of_value (unsigned_attribute v) v refl;
  signed = value_of_data;
  of_signed = λ v. data_of_value (signed_data v) v refl;
  tokens = value_of_pkcs7;
  of_tokens = λ v. pkcs7_of_value (pkcs7 v) v refl;
}
