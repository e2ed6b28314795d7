-- The encodings of signers and signed data, by the elements of their fields.
use Rattle.std.proofs.Common.{◌≡◌, Result, Ok, Err, MatchResult, refl, sym, ap, subst, ◌∙◌}
use Rattle.std.specs.Option.{option_map}
use Rattle.der_core.specs.DerElement.{DerElement}
use Rattle.der_core.specs.Each.{list_element}
use Rattle.der_core.specs.Refusals.{RefusesShape}
use Rattle.der_core.specs.Facts.Lists.{list_refused, printed_list, list_printed}
use Rattle.der_core.specs.declared.error.DerError.{DerError}
use Rattle.key_types.specs.AlgorithmIdentifier.{algorithm_identifier}
use Rattle.cms_types.specs.CertificateChoices.{certificate_choice}
use Rattle.cms_types.specs.Levels.{IsSignerOf, IsSignedDataOf}
use Rattle.cms_types.specs.Members.{element_of_kept}
use Rattle.cms_types.specs.SignedAttributesElement.{signed_attributes}
use Rattle.cms_types.specs.SignerElements.{SignerElements, signer_of}
use Rattle.cms_types.specs.SignedDataElements.{SignedDataElements, signed_data_of}
use Rattle.cms_types.specs.SignerInfo.{AreFieldsOf, signer_elements, signer_info}
use Rattle.cms_types.specs.SignerParts.{AreSignatureFields, AreSignedByFields, signature_fields, signed_by}
use Rattle.cms_types.specs.SignedData.{AreDataFields, signed_data_elements, signed_data}
use Rattle.cms_types.specs.SignedDataParts.{AreCarriedFields, AreSigned, carried_of, signed_of}
use Rattle.cms_types.specs.UnsignedAttribute.{unsigned_attribute}
use Rattle.cms_types.specs.Facts.SignerElements.{determined_fields, determined_data, same_signer, same_data}
use Rattle.cms_types.specs.Facts.SignerInfos.{determined_signer}
use Rattle.cms_types.specs.Facts.SignedDatas.{determined_value}
use Rattle.cms_types.specs.declared.signed_data.SignedData.{SignedData}
use Rattle.cms_types.specs.declared.signer_info.SignerInfo.{SignerInfo}
use Rattle.cms_types.proofs.ListFields.{list_option_printed, printed_list_option}
use Rattle.der_core.specs.Facts.Optional.{printed_option, option_printed}

-- ---- signers

own_fields : (s : SignerInfo) → AreFieldsOf (signer_elements s) s
own_fields s = record {
  version = refl;
  sid = refl;
  digest_algorithm = refl;
  signed_attrs = option_printed signed_attributes (option_map signed_attributes s.signed_attrs) s.signed_attrs refl;
  signature_algorithm = refl;
  signature = refl;
  unsigned_attrs = list_option_printed unsigned_attribute 0xA1 (option_map (list_element 0xA1 unsigned_attribute) s.unsigned_attrs) s.unsigned_attrs refl;
}

signer_same : (f : SignerElements) (s : SignerInfo) → AreFieldsOf f s → f ≡ signer_elements s
signer_same f s are =
    let signed = printed_option signed_attributes f.signed_attrs s.signed_attrs are.signed_attrs in
    let unsigned = printed_list_option unsigned_attribute 0xA1 f.unsigned_attrs s.unsigned_attrs are.unsigned_attrs in
    λ i. record {
      version = are.version i;
      sid = are.sid i;
      digest_algorithm = are.digest_algorithm i;
      signed_attrs = signed i;
      signature_algorithm = are.signature_algorithm i;
      signature = are.signature i;
      unsigned_attrs = unsigned i;
    }

signer_by_fields : (e : DerElement) (f : SignerElements) (s : SignerInfo) → IsSignerOf e f → e ≡ signer_info s → AreFieldsOf f s
signer_by_fields e f s of is =
    let same = same_signer (signer_elements s) f (determined_signer s) (determined_fields f of.fields) (sym is ∙ of.is) in
    subst (λ (g : SignerElements). AreFieldsOf g s) same (own_fields s)

-- a value of the fields is one of the element
pub signer_of_fields : (e : DerElement) (f : SignerElements) (r : Result SignerInfo DerError) → IsSignerOf e f →
    MatchResult r (AreFieldsOf f) (RefusesShape (AreFieldsOf f)) → MatchResult r (λ s. e ≡ signer_info s) (RefusesShape (λ (s : SignerInfo). e ≡ signer_info s))
signer_of_fields e f (Ok s) of are = of.is ∙ ap signer_of (signer_same f s are)
signer_of_fields e f (Err error) of refused =
    list_refused (AreFieldsOf f) (λ (s : SignerInfo). e ≡ signer_info s) error (λ s is. (s, signer_by_fields e f s of is)) refused

-- if a part encodes no value, the whole encodes none
pub no_signed_by : (f : SignerElements) (e : DerError) → RefusesShape (AreSignedByFields f) e → RefusesShape (AreFieldsOf f) e
no_signed_by f e = list_refused (AreSignedByFields f) (AreFieldsOf f) e
    (λ s p. (signed_by s, record { sid = p.sid; digest_algorithm = p.digest_algorithm; signature_algorithm = p.signature_algorithm }))

pub no_signature : (f : SignerElements) (e : DerError) → RefusesShape (AreSignatureFields f) e → RefusesShape (AreFieldsOf f) e
no_signature f e = list_refused (AreSignatureFields f) (AreFieldsOf f) e
    (λ s p. (signature_fields s, record { signed_attrs = p.signed_attrs; signature = p.signature; unsigned_attrs = p.unsigned_attrs }))

-- ---- signed data

own_data : (d : SignedData) → AreDataFields (signed_data_elements d) d
own_data d = record {
  version = refl;
  digest_algorithms = list_printed algorithm_identifier 0x31 (list_element 0x31 algorithm_identifier d.digest_algorithms) d.digest_algorithms refl;
  content_info = refl;
  certificates = list_option_printed certificate_choice 0xA0 (option_map (list_element 0xA0 certificate_choice) d.certificates) d.certificates refl;
  crls = list_option_printed element_of_kept 0xA1 (option_map (list_element 0xA1 element_of_kept) d.crls) d.crls refl;
  signers_infos = list_printed signer_info 0x31 (list_element 0x31 signer_info d.signers_infos) d.signers_infos refl;
}

data_same : (f : SignedDataElements) (d : SignedData) → AreDataFields f d → f ≡ signed_data_elements d
data_same f d are =
    let algorithms = printed_list algorithm_identifier 0x31 f.digest_algorithms d.digest_algorithms are.digest_algorithms in
    let certificates = printed_list_option certificate_choice 0xA0 f.certificates d.certificates are.certificates in
    let crls = printed_list_option element_of_kept 0xA1 f.crls d.crls are.crls in
    let signers = printed_list signer_info 0x31 f.signers_infos d.signers_infos are.signers_infos in
    λ i. record {
      version = are.version i;
      digest_algorithms = algorithms i;
      content_info = are.content_info i;
      certificates = certificates i;
      crls = crls i;
      signers_infos = signers i;
    }

data_by_fields : (e : DerElement) (f : SignedDataElements) (d : SignedData) → IsSignedDataOf e f → e ≡ signed_data d → AreDataFields f d
data_by_fields e f d of is =
    let same = same_data (signed_data_elements d) f (determined_value d) (determined_data f of.fields) (sym is ∙ of.is) in
    subst (λ (g : SignedDataElements). AreDataFields g d) same (own_data d)

-- a value of the fields is one of the element
pub data_of_fields : (e : DerElement) (f : SignedDataElements) (r : Result SignedData DerError)
    → IsSignedDataOf e f → MatchResult r (AreDataFields f) (RefusesShape (AreDataFields f))
    → MatchResult r (λ d. e ≡ signed_data d) (RefusesShape (λ (d : SignedData). e ≡ signed_data d))
data_of_fields e f (Ok d) of are = of.is ∙ ap signed_data_of (data_same f d are)
data_of_fields e f (Err error) of refused =
    list_refused (AreDataFields f) (λ (d : SignedData). e ≡ signed_data d) error (λ d is. (d, data_by_fields e f d of is)) refused

-- if a part encodes no value, the whole encodes none
pub none_signed : (f : SignedDataElements) (e : DerError) → RefusesShape (AreSigned f) e → RefusesShape (AreDataFields f) e
none_signed f e = list_refused (AreSigned f) (AreDataFields f) e
    (λ d p. (signed_of d, record { digest_algorithms = p.digest_algorithms; content_info = p.content_info; signers_infos = p.signers_infos }))

pub none_carried : (f : SignedDataElements) (e : DerError) → RefusesShape (AreCarriedFields f) e → RefusesShape (AreDataFields f) e
none_carried f e = list_refused (AreCarriedFields f) (AreDataFields f) e (λ d p. (carried_of d, record { certificates = p.certificates; crls = p.crls }))
