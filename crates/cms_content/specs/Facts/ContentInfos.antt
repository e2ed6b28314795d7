-- Contents with their types: different ones have different elements, each well formed.
use Rattle.std.proofs.Common.{◌≡◌, [], ◌∷◌, Option, Some, None, refl, ap, sym, subst, ◌∙◌, arith}
use Rattle.std.specs.Option.{option_map}
use Rattle.der_core.specs.DerElement.{DerElement, row}
use Rattle.der_core.specs.Elements.{octet_string, optional_explicit}
use Rattle.der_core.specs.Encoding.{encoding, IsWellFormed, AreWellFormed}
use Rattle.der_core.specs.Structure.{IsGrammar}
use Rattle.der_core.specs.Facts.Fronts.{formed_encoding_once}
use Rattle.der_core.specs.Facts.Grammars.{printed, same_fields}
use Rattle.der_core.specs.Facts.Owned.{same_kept}
use Rattle.der_core.specs.Facts.OctetStrings.{octet_strings}
use Rattle.asn1_types.specs.Values.{identifier_contents}
use Rattle.asn1_types.specs.Elements.{object_identifier}
use Rattle.asn1_types.specs.Facts.Elements.{identifiers}
use Rattle.asn1_types.specs.declared.oid.ObjectIdentifier.{ObjectIdentifier}
use Rattle.cms_content.specs.IndirectData.{indirect_data_content}
use Rattle.cms_content.specs.ContentKind.{named_content, content_number}
use Rattle.cms_content.specs.ContentValue.{kind_of_content, content_value, HasKind, content_octets}
use Rattle.cms_content.specs.ContentInfoElements.{content_info_of}
use Rattle.cms_content.specs.ContentInfo.{content_info}
use Rattle.cms_content.specs.Facts.IndirectDatas.{indirect_data_contents}
use Rattle.cms_content.specs.Facts.ContentKinds.{kinds_by_number, HasKind-prop}
use Rattle.cms_content.specs.Facts.Ctls.{ctls, ctls_once}
use Rattle.cms_content.specs.declared.content_kind.ContentKind.{ContentKind}
use Rattle.cms_content.specs.declared.content_info.EncapsulatedContentInfo.{EncapsulatedContentInfo}
use Rattle.cms_content.specs.declared.content_value.ContentValue.{ContentValue}
use Rattle.cms_content.specs.declared.content_value.ContentValue.TheVariants as contents
use Rattle.der_core.specs.Facts.Optional.{explicit_once}

-- ---- contents of one kind

pub values_once : (a b : ContentValue) → kind_of_content a ≡ kind_of_content b → content_value a ≡ content_value b → a ≡ b
values_once (contents.SpcIndirectDataContent x) (contents.SpcIndirectDataContent y) kind e =
    ap contents.SpcIndirectDataContent (indirect_data_contents.once (indirect_data_content x) x y refl e)
values_once (contents.CertificateTrustList x) (contents.CertificateTrustList y) kind e = ap contents.CertificateTrustList (ctls_once x y e)
values_once (contents.Data x) (contents.Data y) kind e = ap contents.Data (octet_strings.once (octet_string x) x y refl e)
values_once (contents.Other x) (contents.Other y) kind e = ap contents.Other (same_kept x y e)
values_once a b kind e = absurd cc

value_formed : (value : ContentValue) → IsWellFormed (content_value value)
value_formed (contents.SpcIndirectDataContent x) = indirect_data_contents.formed x
value_formed (contents.CertificateTrustList x) = ctls.formed x
value_formed (contents.Data x) = octet_strings.formed x
value_formed (contents.Other x) = x.der.formed

pub values_by_octets : (a b : ContentValue) → content_octets a ≡ content_octets b → a ≡ b
values_by_octets a b e =
    let numbers : content_number (kind_of_content a) ≡ content_number (kind_of_content b) = cc in
    let octets : encoding (content_value a) ≡ encoding (content_value b) = cc in
    values_once a b (kinds_by_number (kind_of_content a) (kind_of_content b) numbers)
    (formed_encoding_once (content_value a) (content_value b) (value_formed a) (value_formed b) octets)

-- ---- optional contents

pub options_once : (kind : ContentKind) (a b : Option ContentValue) → HasKind kind a → HasKind kind b
    → option_map content_value a ≡ option_map content_value b → a ≡ b
options_once kind None None p q e = refl
options_once kind None (Some y) p q e = absurd cc
options_once kind (Some x) None p q e = absurd cc
options_once kind (Some x) (Some y) p q e = let same : content_value x ≡ content_value y = cc in ap Some (values_once x y (p ∙ sym q) same)

pub fields_once : (s t : DerElement) (x y : Option DerElement) → content_info_of s x ≡ content_info_of t y → (s ≡ t) × (x ≡ y)
fields_once s t x y e =
    let kids = same_fields (s ∷ optional_explicit 0xA0 x) (t ∷ optional_explicit 0xA0 y) e in
    let others : optional_explicit 0xA0 x ≡ optional_explicit 0xA0 y = cc in
    (cc, explicit_once 0xA0 x y others)

-- ---- contents with their types

abbrev info_with : (ty : ObjectIdentifier) (content : Option ContentValue) → HasKind (named_content (identifier_contents ty)) content → EncapsulatedContentInfo
info_with ty content fits = record { content_type = ty; content = content; fits = fits }

pub same_info : (a b : EncapsulatedContentInfo) → a.content_type ≡ b.content_type → a.content ≡ b.content → a ≡ b
same_info a b ty content =
    let with_content : (h : HasKind (named_content (identifier_contents a.content_type)) b.content) → a ≡ info_with a.content_type b.content h =
    subst (λ (v : Option ContentValue). (h : HasKind (named_content (identifier_contents a.content_type)) v) → a ≡ info_with a.content_type v h) content
    (λ h. ap (info_with a.content_type a.content) (HasKind-prop (named_content (identifier_contents a.content_type)) a.content a.fits h)) in
    subst (λ (i : ObjectIdentifier). (h : HasKind (named_content (identifier_contents i)) b.content) → a ≡ info_with i b.content h) ty with_content b.fits

infos_once : (a b : EncapsulatedContentInfo) → content_info a ≡ content_info b → a ≡ b
infos_once a b e =
    let parts = fields_once (object_identifier a.content_type) (object_identifier b.content_type) (option_map content_value a.content)
    (option_map content_value b.content) e in
    let ty = identifiers.once (object_identifier a.content_type) a.content_type b.content_type refl parts.0 in
    let fits = subst (λ (i : ObjectIdentifier). HasKind (named_content (identifier_contents i)) a.content) ty a.fits in
    same_info a b ty (options_once (named_content (identifier_contents b.content_type)) a.content b.content fits b.fits parts.1)

content_formed : (content : Option ContentValue) → AreWellFormed (row (optional_explicit 0xA0 (option_map content_value content)))
content_formed None = tt
content_formed (Some content) = (((omega arith, omega arith, omega arith), refl, (value_formed content, tt)), tt)

pub content_infos : IsGrammar (λ element info. element ≡ content_info info) content_info (λ info. [])
content_infos = printed content_info infos_once
    (λ info. ((omega arith, omega arith, omega arith), refl, (identifiers.formed info.content_type, content_formed info.content)))
