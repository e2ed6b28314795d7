-- The element that is written for signed data (RFC 5652 5.1).
use Rattle.std.specs.Prelude.{◌≡◌}
use Rattle.std.specs.Option.{option_map}
use Rattle.der_core.specs.DerElement.{DerElement}
use Rattle.der_core.specs.Each.{IsListOf, list_element, Prints}
use Rattle.der_core.specs.Owned.{KeptElement}
use Rattle.key_types.specs.AlgorithmIdentifier.{algorithm_identifier}
use Rattle.cms_content.specs.ContentInfo.{content_info}
use Rattle.cms_types.specs.CmsVersion.{cms_version}
use Rattle.cms_types.specs.Levels.{IsCmsVersion, IsAlgorithm, IsContentInfo}
use Rattle.der_core.specs.Optional.{SpellsOption}
use Rattle.cms_types.specs.CertificateChoices.{certificate_choice}
use Rattle.cms_types.specs.Members.{element_of_kept}
use Rattle.cms_types.specs.SignedDataElements.{SignedDataElements, signed_data_of}
use Rattle.cms_types.specs.SignerInfo.{signer_info}
use Rattle.cms_types.specs.declared.signed_data.SignedData.{SignedData}

-- the elements that are written for the fields
abbrev pub signed_data_elements : SignedData → SignedDataElements
signed_data_elements value = record {
  version = cms_version value.version;
  digest_algorithms = list_element 0x31 algorithm_identifier value.digest_algorithms;
  content_info = content_info value.content_info;
  certificates = option_map (list_element 0xA0 certificate_choice) value.certificates;
  crls = option_map (list_element 0xA1 element_of_kept) value.crls;
  signers_infos = list_element 0x31 signer_info value.signers_infos;
}

-- the element of signed data
abbrev pub signed_data : SignedData → DerElement
signed_data value = signed_data_of (signed_data_elements value)

-- Each element encodes its field.
pub record AreDataFields (f : SignedDataElements) (value : SignedData) : Type 0 where
  pub version : IsCmsVersion f.version value.version
  pub digest_algorithms : IsListOf 0x31 IsAlgorithm f.digest_algorithms value.digest_algorithms
  pub content_info : IsContentInfo f.content_info value.content_info
  pub certificates : SpellsOption (IsListOf 0xA0 (Prints certificate_choice)) f.certificates
      value.certificates
  pub crls : SpellsOption
      (IsListOf 0xA1 (λ (element : DerElement) (kept : KeptElement). element ≡ kept.element)) f.crls
      value.crls
  pub signers_infos : IsListOf 0x31 (Prints signer_info) f.signers_infos value.signers_infos
