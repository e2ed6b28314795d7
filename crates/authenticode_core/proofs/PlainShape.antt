-- Signed data of the plain form has the structure of signed data, and its fields are those of the
-- form.
use Rattle.std.proofs.Common.{◌≡◌, ◌≢◌, ℕ, List, [], ◌∷◌, Some, true, refl, sym, ap, subst, ◌∙◌}
use Rattle.asn1_types.specs.Elements.{object_identifier_of}
use Rattle.asn1_types.proofs.KnownTable.{known_is}
use Rattle.asn1_types.specs.KnownIdentifiers.{is_known}
use Rattle.asn1_types.specs.declared.oid.ObjectIdentifier.{ObjectIdentifier}
use Rattle.asn1_types.specs.declared.oids.TheConstants as identifiers
use Rattle.cms_content.specs.declared.content_value.ContentValue.TheVariants as contents
use Rattle.cms_types.proofs.SignerLaws.{inside, value_of_pkcs7, value_of_signer}
use Rattle.cms_types.specs.Facts.SignedDatas.{determined_value}
use Rattle.cms_types.specs.Facts.SignerElements.{determined_data, determined_fields, same_data, same_signer}
use Rattle.cms_types.specs.Facts.SignerInfos.{determined_signer}
use Rattle.cms_types.specs.Levels.{AreSignerFields, AreSignedDataFields, IsAlgorithm, IsContentInfo, IsSignerIdentifier}
use Rattle.cms_types.specs.Pkcs7Elements.{pkcs7_of}
use Rattle.cms_types.specs.SignedData.{signed_data_elements}
use Rattle.cms_types.specs.SignedDataElements.{SignedDataElements, signed_data_of}
use Rattle.cms_types.specs.SignerInfo.{signer_elements}
use Rattle.cms_types.specs.Signers.{IsPkcs7, Pkcs7, Signed, IsSignerInfo, Bare, NoSigners, MoreSigners}
use Rattle.cms_types.specs.declared.signer_info.identifier.SignerIdentifier.TheVariants as named
use Rattle.cms_types.specs.declared.version.CmsVersion.TheVariants as versions
use Rattle.der_core.specs.DerElement.{DerElement}
use Rattle.der_core.specs.Elements.{sequence, set, null, bit_octets, octet_string}
use Rattle.der_core.specs.Encoding.{IsDer, IsPaddedEncoding}
use Rattle.der_core.specs.Owned.{KeptElement}
use Rattle.der_core.specs.Structure.{Fits}
use Rattle.key_types.specs.declared.algorithm.AlgorithmIdentifier.{AlgorithmIdentifier}
use Rattle.name_types.specs.declared.attribute.AttributeTypeAndValue.{AttributeTypeAndValue}
use Rattle.name_types.specs.declared.attribute_value.AttributeValue.TheVariants as strings
use Rattle.name_types.specs.declared.directory_string.DirectoryString.TheVariants as directory_strings
use Rattle.x509_types.specs.declared.attribute.values.AttributeValues.TheVariants as values
use Rattle.x509_types.specs.Attribute.{IsAttribute, AreAttributes}
use Rattle.authenticode_core.specs.Asn1.{context}
use Rattle.authenticode_core.specs.Basic.{HasSignedData}
use Rattle.authenticode_core.specs.PlainForm.{PlainParts, SignerParts, IsPlain, IsPlainForm, algorithm, plain_attribute, plain_attributes, plain_certificate}
use Rattle.authenticode_core.specs.PlainForm.{plain_content_info, plain_digest_info, empty_link, image_data, indirect_data, plain_issuer_and_serial_number}
use Rattle.authenticode_core.specs.PlainForm.{no_program_name, signed_content, plain_signed_data, signed_data_fields, signer_fields, plain_signer_info}
use Rattle.authenticode_core.specs.PlainFields.{HasPlainFields, plain_data, plain_elements, plain_signer}
use Rattle.authenticode_core.specs.SignedFields.{HasMessageDigest, IsAttributeOf, IsFirstSigner}
use Rattle.authenticode_core.specs.SigningRules.{digested_octets}
use Rattle.sig_core.specs.Digest.{digest_of}
use Rattle.sig_core.specs.declared.hash.HashAlgorithm.TheVariants.{SHA2_256}
use Rattle.sig_core.specs.declared.sha_variant.ShaVariant.TheVariants as variants

-- ---- values

abbrev pub identifier : (contents : List ℕ) → is_known contents ≡ true → ObjectIdentifier
identifier contents known = record { contents = contents; formed = known_is contents known }

abbrev pub kept : (element : DerElement) → IsDer element → KeptElement
kept element der = record { element = element; der = der }

abbrev pub algorithm_value : (contents : List ℕ) → is_known contents ≡ true → IsDer null → AlgorithmIdentifier
algorithm_value contents known der = record { oid = identifier contents known; parameters = Some (kept null der) }

has_algorithm : (contents : List ℕ) → is_known contents ≡ true → IsDer null → Fits IsAlgorithm (algorithm contents)
has_algorithm contents known der = (algorithm_value contents known der, refl)

abbrev pub name_value : List ℕ → List (List AttributeTypeAndValue)
name_value text =
    (record { ty = identifier identifiers.AT_COMMON_NAME.now refl; value = strings.DirectoryString (directory_strings.Utf8String text) } ∷ []) ∷ []

has_sid : (issuer serial : List ℕ) → serial ≢ [] → Fits IsSignerIdentifier (plain_issuer_and_serial_number issuer serial)
has_sid issuer serial some =
    (named.IssuerAndSerialNumber (record { issuer = name_value issuer; serial_number = record { contents = serial; formed = some } }), refl)

-- ---- the content

abbrev image_value : DerElement
image_value = sequence (bit_octets [] ∷ empty_link ∷ [])

image_value_der : (file_hash : List ℕ) → IsDer (plain_content_info file_hash) → IsDer image_value
image_value_der file_hash der =
    let tagged = (inside 0x30 (plain_content_info file_hash)
    (object_identifier_of identifiers.SPC_INDIRECT_DATA.now ∷ context 0 (indirect_data file_hash ∷ []) ∷ []) der refl).1.0 in
    let data_der = (inside 0xA0 (context 0 (indirect_data file_hash ∷ [])) (indirect_data file_hash ∷ []) tagged refl).0 in
    let image = (inside 0x30 (indirect_data file_hash) (image_data ∷ plain_digest_info file_hash ∷ []) data_der refl).0 in
    (inside 0x30 image_data (object_identifier_of identifiers.SPC_PE_IMAGE_DATA.now ∷ image_value ∷ []) image refl).1.0

has_content : (file_hash : List ℕ) → IsDer null → IsDer (plain_content_info file_hash) → Fits IsContentInfo (plain_content_info file_hash)
has_content file_hash null_der der = (
  record {
    content_type = identifier identifiers.SPC_INDIRECT_DATA.now refl;
    content = Some (contents.SpcIndirectDataContent (record {
      image = record { ty = identifier identifiers.SPC_PE_IMAGE_DATA.now refl; value = Some (kept image_value (image_value_der file_hash der)) };
      message_digest = record { oid = algorithm_value identifiers.SHA256.now refl null_der; digest = file_hash };
    }));
    fits = refl;
  },
  refl,
)

-- ---- the signer

has_type : (known : is_known identifiers.CONTENT_TYPE.now ≡ true)
    → Fits IsAttribute (plain_attribute identifiers.CONTENT_TYPE.now (object_identifier_of identifiers.SPC_INDIRECT_DATA.now))
has_type known =
    let value = object_identifier_of identifiers.SPC_INDIRECT_DATA.now in (
      record {
        ty = identifier identifiers.CONTENT_TYPE.now known;
        value = values.ContentType (identifier identifiers.SPC_INDIRECT_DATA.now refl ∷ []);
        fits = refl;
      },
      record { values = set (value ∷ []); is = refl; spelled = record { kids = value ∷ []; holds = refl; each = (refl, tt) } },
    )

has_program : (known : is_known identifiers.SPC_SP_OPUS_INFO.now ≡ true) → IsDer no_program_name
    → Fits IsAttribute (plain_attribute identifiers.SPC_SP_OPUS_INFO.now no_program_name)
has_program known der = (
  record { ty = identifier identifiers.SPC_SP_OPUS_INFO.now known; value = values.Raw (kept no_program_name der ∷ []); fits = refl },
  record { values = set (no_program_name ∷ []); is = refl; spelled = record { kids = no_program_name ∷ []; holds = refl; each = (refl, tt) } },
)

has_digest : (known : is_known identifiers.MESSAGE_DIGEST.now ≡ true) (digest : List ℕ)
    → Fits IsAttribute (plain_attribute identifiers.MESSAGE_DIGEST.now (octet_string digest))
has_digest known digest = (
  record { ty = identifier identifiers.MESSAGE_DIGEST.now known; value = values.MessageDigest (digest ∷ []); fits = refl },
  record { values = set (octet_string digest ∷ []); is = refl; spelled = record { kids = octet_string digest ∷ []; holds = refl; each = (refl, tt) } },
)

has_attributes : (message_digest : List ℕ) → IsDer no_program_name → Fits AreAttributes (context 0 (plain_attributes message_digest))
has_attributes message_digest der =
    let kind = has_type refl in
    let program = has_program refl der in
    let digest = has_digest refl message_digest in
    (kind.0 ∷ program.0 ∷ digest.0 ∷ [], record { kids = plain_attributes message_digest; holds = refl; each = (kind.1, (program.1, (digest.1, tt))) })

program_der : (s : SignerParts) → IsDer (plain_signer_info s) → IsDer no_program_name
program_der s der =
    let signed = (inside 0x30 (plain_signer_info s) (signer_fields s) der refl).1.1.1.0 in
    let opus = (inside 0xA0 (context 0 (plain_attributes s.message_digest)) (plain_attributes s.message_digest) signed refl).1.0 in
    let programs = (inside 0x30 (plain_attribute identifiers.SPC_SP_OPUS_INFO.now no_program_name)
    (object_identifier_of identifiers.SPC_SP_OPUS_INFO.now ∷ set (no_program_name ∷ []) ∷ []) opus refl).1.0 in
    (inside 0x31 (set (no_program_name ∷ [])) (no_program_name ∷ []) programs refl).0

signer_fields_have_shape : (s : SignerParts) → s.serial ≢ [] → IsDer null → IsDer (plain_signer_info s) → AreSignerFields (plain_signer s)
signer_fields_have_shape s some null_der der =
    let program = program_der s der in
    record {
      version = (versions.V1, refl);
      sid = has_sid s.issuer s.serial some;
      digest_algorithm = has_algorithm identifiers.SHA256.now refl null_der;
      signed_attrs = has_attributes s.message_digest program;
      signature_algorithm = has_algorithm identifiers.RSA_ENCRYPTION.now refl null_der;
      signature = (s.signature, refl);
      unsigned_attrs = tt;
    }

is_signer : (s : SignerParts) → s.serial ≢ [] → IsDer null → IsDer (plain_signer_info s) → IsSignerInfo (plain_signer_info s)
is_signer s some null_der der = Bare {f = plain_signer s} (record { is = refl; fields = signer_fields_have_shape s some null_der der }) refl

-- ---- signed data

data_fields_have_shape : (p : PlainParts) → IsDer null → IsDer (plain_content_info p.file_hash) → AreSignedDataFields (plain_elements p)
data_fields_have_shape p null_der der = record {
  version = (versions.V1, refl);
  digest_algorithms = (
    algorithm_value identifiers.SHA256.now refl null_der ∷ [],
    record { kids = algorithm identifiers.SHA256.now ∷ []; holds = refl; each = (refl, tt) },
  );
  content_info = has_content p.file_hash null_der der;
  certificates = (plain_certificate p.certificate ∷ [], refl);
  crls = ([], refl);
  signers_infos = (plain_signer_info p.signer ∷ [], refl);
}

-- the elements that are read, within limits
pub record Bounded (p : PlainParts) : Type 0 where
  pub content : IsDer (plain_content_info p.file_hash)
  pub signer : IsDer (plain_signer_info p.signer)
  pub parameters : IsDer null

pub bounded : (p : PlainParts) → IsDer (signed_content p) → Bounded p
bounded p der =
    let tagged = (inside 0x30 (signed_content p) (object_identifier_of identifiers.SIGNED_DATA.now ∷ context 0 (plain_signed_data p ∷ []) ∷ []) der refl).1.0 in
    let data_der = (inside 0xA0 (context 0 (plain_signed_data p ∷ [])) (plain_signed_data p ∷ []) tagged refl).0 in
    let kids = inside 0x30 (plain_signed_data p) (signed_data_fields p) data_der refl in
    let digest = (inside 0x31 (set (algorithm identifiers.SHA256.now ∷ [])) (algorithm identifiers.SHA256.now ∷ []) kids.1.0 refl).0 in
    record {
      content = kids.1.1.0;
      signer = (inside 0x31 (set (plain_signer_info p.signer ∷ [])) (plain_signer_info p.signer ∷ []) kids.1.1.1.1.1.0 refl).0;
      parameters = (inside 0x30 (algorithm identifiers.SHA256.now) (object_identifier_of identifiers.SHA256.now ∷ null ∷ []) digest refl).1.0;
    }

pub has_shape : (p : PlainParts) → p.signer.serial ≢ [] → IsDer (signed_content p) → IsPkcs7 (signed_content p)
has_shape p some der =
    let b = bounded p der in
    Pkcs7 {signed_data = plain_signed_data p} refl (Signed {f = plain_elements p} {signers = plain_signer_info p.signer ∷ []}
    (record { is = refl; fields = data_fields_have_shape p b.parameters b.content }) refl
    (MoreSigners (is_signer p.signer some b.parameters b.signer) NoSigners))

within : (f g : SignedDataElements) → pkcs7_of (signed_data_of f) ≡ pkcs7_of (signed_data_of g) → signed_data_of f ≡ signed_data_of g
within f g e = cc

pub some_serial : (p : PlainParts) → IsPlain p → p.signer.serial ≢ []
some_serial p plain none = plain.some_serial (sym plain.serial ∙ none)

pub plain_form_has_signed_data : (octets : List ℕ) (p : PlainParts) → IsPlainForm octets p → HasSignedData octets (plain_elements p)
plain_form_has_signed_data octets p form =
    let der = form.spelled.0 in
    let value = value_of_pkcs7 (signed_content p) der (has_shape p (some_serial p form.plain) der) in
    let b = bounded p der in
    record {
      certificate = form.certificate;
      named = form.named;
      value = value.0;
      spelled = subst (IsPaddedEncoding form.certificate) value.1 form.spelled;
      fields = same_data (plain_elements p) (signed_data_elements value.0.signed_data)
          (determined_data (plain_elements p) (data_fields_have_shape p b.parameters b.content)) (determined_value value.0.signed_data)
          (within (plain_elements p) (signed_data_elements value.0.signed_data) value.1);
    }

-- ---- the form

pub first_signer : (p : PlainParts) → p.signer.serial ≢ [] → IsDer (signed_content p) → IsFirstSigner (plain_elements p) (plain_signer p.signer)
first_signer p some der =
    let b = bounded p der in
    let value = value_of_signer (plain_signer_info p.signer) b.signer (is_signer p.signer some b.parameters b.signer) in
    record {
      value = value.0;
      others = [];
      is = same_signer (plain_signer p.signer) (signer_elements value.0)
          (determined_fields (plain_signer p.signer) (signer_fields_have_shape p.signer some b.parameters b.signer)) (determined_signer value.0) value.1;
      first = ap (λ (e : DerElement). e ∷ []) value.1;
    }

other_type : (oid other : List ℕ) (values : List DerElement) (value : DerElement) → (other ≡ oid → ⊥)
    → IsAttributeOf oid (plain_attribute other value) values → ⊥
other_type oid other values value apart is = let same : other ≡ oid = cc in apart same

pub bound_by : (p : PlainParts) → IsPlain p → HasMessageDigest (plain_signer p.signer) (digest_of SHA2_256 (digested_octets (plain_data p.file_hash)))
bound_by p plain = record {
  others = [];
  first = record {
    before = plain_attribute identifiers.CONTENT_TYPE.now _ ∷ plain_attribute identifiers.SPC_SP_OPUS_INFO.now no_program_name ∷ [];
    attribute = plain_attribute identifiers.MESSAGE_DIGEST.now (octet_string p.signer.message_digest);
    after = [];
    are = refl;
    first = (λ values. other_type _ _ values _ (λ e. absurd cc), (λ values. other_type _ _ values _ (λ e. absurd cc), tt));
    named = ap (λ (digest : List ℕ). plain_attribute identifiers.MESSAGE_DIGEST.now (octet_string digest)) plain.bound;
  };
}

pub plain_form_has_fields : (octets : List ℕ) (p : PlainParts) → IsPlainForm octets p → HasPlainFields p
plain_form_has_fields octets p form = record {
  form = record {
    version = refl;
    one_signer = refl;
    one_algorithm = refl;
    indirect = refl;
    first_algorithm = ([], refl);
    same_content = refl;
    signer = first_signer p (some_serial p form.plain) form.spelled.0;
    same_signer = refl;
  };
  named = record { variant = variants.SHA2_256; parameters = null ∷ []; is = refl; named = refl };
  bound = bound_by p form.plain;
}
