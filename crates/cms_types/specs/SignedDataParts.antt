-- The fields of signed data in two parts that are read and copied one after the other (RFC 5652
-- 5.1).
use Rattle.std.specs.Prelude.{◌≡◌}
use Rattle.der_core.specs.DerElement.{DerElement}
use Rattle.der_core.specs.Each.{IsListOf, Prints}
use Rattle.der_core.specs.Owned.{KeptElement}
use Rattle.der_core.specs.Optional.{SpellsOption}
use Rattle.cms_types.specs.CertificateChoices.{certificate_choice}
use Rattle.cms_types.specs.Levels.{IsAlgorithm, IsContentInfo}
use Rattle.cms_types.specs.SignedDataElements.{SignedDataElements}
use Rattle.cms_types.specs.SignerInfo.{signer_info}
use Rattle.cms_types.specs.declared.signed_data.SignedData.{SignedData}
use Rattle.cms_types.specs.declared.signed_data.parts.CarriedPart.{CarriedPart}
use Rattle.cms_types.specs.declared.signed_data.parts.SignedPart.{SignedPart}
use Rattle.cms_types.specs.declared.version.CmsVersion.{CmsVersion}

-- Each element encodes its field of the first part.
pub record AreSigned (f : SignedDataElements) (part : SignedPart) : Type 0 where
  pub digest_algorithms : IsListOf 0x31 IsAlgorithm f.digest_algorithms part.digest_algorithms
  pub content_info : IsContentInfo f.content_info part.content_info
  pub signers_infos : IsListOf 0x31 (Prints signer_info) f.signers_infos part.signers_infos

-- Each element encodes its field of the second part.
pub record AreCarriedFields (f : SignedDataElements) (part : CarriedPart) : Type 0 where
  pub certificates : SpellsOption (IsListOf 0xA0 (Prints certificate_choice)) f.certificates
      part.certificates
  pub crls : SpellsOption
      (IsListOf 0xA1 (λ (element : DerElement) (kept : KeptElement). element ≡ kept.element)) f.crls
      part.crls

-- the first part of signed data
abbrev pub signed_of : SignedData → SignedPart
signed_of value = record {
  digest_algorithms = value.digest_algorithms;
  content_info = value.content_info;
  signers_infos = value.signers_infos;
}

-- the second part of signed data
abbrev pub carried_of : SignedData → CarriedPart
carried_of value = record { certificates = value.certificates; crls = value.crls }

-- the signed data with this version and these parts
abbrev pub data_of_parts : CmsVersion → SignedPart → CarriedPart → SignedData
data_of_parts version signed carried = record {
  version = version;
  digest_algorithms = signed.digest_algorithms;
  content_info = signed.content_info;
  certificates = carried.certificates;
  crls = carried.crls;
  signers_infos = signed.signers_infos;
}
