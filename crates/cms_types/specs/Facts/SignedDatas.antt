-- Signed data: different values have different elements, each well formed.
use Rattle.std.proofs.Common.{◌≡◌, ℕ, List, [], Option, Some, None, refl, ap, arith}
use Rattle.std.specs.Option.{option_map}
use Rattle.der_core.specs.DerElement.{DerElement, tag_of}
use Rattle.der_core.specs.Encoding.{IsWellFormed}
use Rattle.der_core.specs.Each.{list_element}
use Rattle.der_core.specs.Owned.{KeptElement}
use Rattle.der_core.specs.Structure.{IsGrammar}
use Rattle.der_core.specs.Facts.Grammars.{printed, list_once, each_formed, set_formed}
use Rattle.der_core.specs.Facts.Owned.{same_kept}
use Rattle.key_types.specs.AlgorithmIdentifier.{algorithm_identifier}
use Rattle.key_types.specs.Facts.Algorithms.{algorithms}
use Rattle.key_types.specs.declared.algorithm.AlgorithmIdentifier.{AlgorithmIdentifier}
use Rattle.cms_content.specs.ContentInfo.{content_info}
use Rattle.cms_content.specs.Facts.ContentInfos.{content_infos}
use Rattle.cms_types.specs.CertificateChoices.{certificate_choice}
use Rattle.cms_types.specs.Members.{element_of_kept}
use Rattle.cms_types.specs.Pkcs7.{pkcs7}
use Rattle.cms_types.specs.SignedData.{signed_data_elements, signed_data}
use Rattle.cms_types.specs.SignedDataElements.{SignedDataElements}
use Rattle.cms_types.specs.SignerInfo.{signer_info}
use Rattle.cms_types.specs.Levels.{OfOption}
use Rattle.cms_types.specs.Facts.Choices.{certificate_choices}
use Rattle.der_core.specs.Facts.Optional.{options_once}
use Rattle.cms_types.specs.Facts.Options.{options_formed}
use Rattle.cms_types.specs.Facts.SignerElements.{IsDeterminedData, same_data, data_formed}
use Rattle.cms_types.specs.Facts.SignerInfos.{signer_infos}
use Rattle.cms_types.specs.Facts.Versions.{versions, versions_once}
use Rattle.cms_types.specs.declared.signed_data.SignedData.{SignedData}
use Rattle.cms_types.specs.declared.signed_data.certificate_choices.CertificateChoices.{CertificateChoices}
use Rattle.cms_types.specs.declared.signed_data.pkcs7.Pkcs7Certificate.{Pkcs7Certificate}
use Rattle.cms_types.specs.declared.signer_info.SignerInfo.{SignerInfo}

list_tags : {X : Type 0} (tag : ℕ) (written : X → DerElement) (a : Option (List X)) → OfOption (λ e. tag_of e ≡ tag) (option_map (list_element tag written) a)
list_tags tag written None = tt
list_tags tag written (Some a) = refl

pub determined_value : (d : SignedData) → IsDeterminedData (signed_data_elements d)
determined_value d = record {
  certificates = list_tags 0xA0 certificate_choice d.certificates;
  crls = list_tags 0xA1 element_of_kept d.crls;
  signers_infos = refl;
}

same_algorithms : (a b : List AlgorithmIdentifier) → list_element 0x31 algorithm_identifier a ≡ list_element 0x31 algorithm_identifier b → a ≡ b
same_algorithms a b e = list_once 0x31 algorithm_identifier (λ x y e. algorithms.once (algorithm_identifier x) x y refl e) a b e

same_certificates : (a b : List CertificateChoices) → list_element 0xA0 certificate_choice a ≡ list_element 0xA0 certificate_choice b → a ≡ b
same_certificates a b e = list_once 0xA0 certificate_choice (λ x y e. certificate_choices.once (certificate_choice x) x y refl e) a b e

same_crls : (a b : List KeptElement) → list_element 0xA1 element_of_kept a ≡ list_element 0xA1 element_of_kept b → a ≡ b
same_crls a b e = list_once 0xA1 element_of_kept same_kept a b e

same_signers : (a b : List SignerInfo) → list_element 0x31 signer_info a ≡ list_element 0x31 signer_info b → a ≡ b
same_signers a b e = list_once 0x31 signer_info (λ x y e. signer_infos.once (signer_info x) x y refl e) a b e

-- the elements of its fields determine signed data
pub data_once : (a b : SignedData) → signed_data_elements a ≡ signed_data_elements b → a ≡ b
data_once a b same =
    let version = versions_once a.version b.version (ap (λ (f : SignedDataElements). f.version) same) in
    let digest_algorithms = same_algorithms a.digest_algorithms b.digest_algorithms (ap (λ (f : SignedDataElements). f.digest_algorithms) same) in
    let info = content_infos.once (content_info a.content_info) a.content_info b.content_info refl (ap (λ (f : SignedDataElements). f.content_info) same) in
    let certificates = options_once (list_element 0xA0 certificate_choice) same_certificates a.certificates b.certificates
    (ap (λ (f : SignedDataElements). f.certificates) same) in
    let crls = options_once (list_element 0xA1 element_of_kept) same_crls a.crls b.crls (ap (λ (f : SignedDataElements). f.crls) same) in
    let signers_infos = same_signers a.signers_infos b.signers_infos (ap (λ (f : SignedDataElements). f.signers_infos) same) in
    λ i. record {
      version = version i;
      digest_algorithms = digest_algorithms i;
      content_info = info i;
      certificates = certificates i;
      crls = crls i;
      signers_infos = signers_infos i;
    }

datas_once : (a b : SignedData) → signed_data a ≡ signed_data b → a ≡ b
datas_once a b e = data_once a b (same_data (signed_data_elements a) (signed_data_elements b) (determined_value a) (determined_value b) e)

certificates_formed : (values : List CertificateChoices) → IsWellFormed (list_element 0xA0 certificate_choice values)
certificates_formed values = ((omega arith, omega arith, omega arith), refl, each_formed certificate_choice certificate_choices.formed values)

crls_formed : (values : List KeptElement) → IsWellFormed (list_element 0xA1 element_of_kept values)
crls_formed values = ((omega arith, omega arith, omega arith), refl, each_formed element_of_kept (λ k. k.der.formed) values)

datas_formed : (d : SignedData) → IsWellFormed (signed_data d)
datas_formed d =
    data_formed (signed_data_elements d) (record {
      version = versions.formed d.version;
      digest_algorithms = set_formed algorithm_identifier algorithms.formed d.digest_algorithms;
      content_info = content_infos.formed d.content_info;
      certificates = options_formed (list_element 0xA0 certificate_choice) certificates_formed d.certificates;
      crls = options_formed (list_element 0xA1 element_of_kept) crls_formed d.crls;
      signers_infos = set_formed signer_info signer_infos.formed d.signers_infos;
    })

pub all_signed_data : IsGrammar (λ element d. element ≡ signed_data d) signed_data (λ d. [])
all_signed_data = printed signed_data datas_once datas_formed

pkcs7_once : (a b : Pkcs7Certificate) → pkcs7 a ≡ pkcs7 b → a ≡ b
pkcs7_once a b e =
    let inside : signed_data a.signed_data ≡ signed_data b.signed_data = cc in
    ap (λ (d : SignedData). record { signed_data = d }) (datas_once a.signed_data b.signed_data inside)

pub pkcs7s : IsGrammar (λ element p. element ≡ pkcs7 p) pkcs7 (λ p. [])
pkcs7s = printed pkcs7 pkcs7_once (λ p. (
  (omega arith, omega arith, omega arith),
  refl,
  (((omega arith, omega arith, omega arith), refl), (((omega arith, omega arith, omega arith), refl, (datas_formed p.signed_data, tt)), tt)),
))
