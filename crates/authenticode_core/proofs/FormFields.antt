-- The fields of signed data, which are unique.
use Rattle.std.proofs.Common.{◌≡◌, ℕ, List, [], ◌∷◌, Option, Some, None, refl, sym, ap, ◌∙◌}
use Rattle.std.specs.Prelude.{map}
use Rattle.std.specs.Option.{option_map}
use Rattle.asn1_types.specs.Elements.{object_identifier}
use Rattle.asn1_types.specs.Values.{identifier_contents}
use Rattle.asn1_types.specs.declared.oids.TheConstants.{SPC_INDIRECT_DATA}
use Rattle.cms_content.specs.ContentInfoElements.{content_info_of}
use Rattle.cms_content.specs.ContentKind.{named_content}
use Rattle.cms_content.specs.ContentValue.{HasKind, content_value, kind_of_content}
use Rattle.cms_content.specs.Facts.ContentInfos.{fields_once}
use Rattle.cms_content.specs.declared.content_kind.ContentKind.{ContentKind}
use Rattle.cms_content.specs.declared.content_kind.ContentKind.TheVariants as kinds
use Rattle.cms_content.specs.declared.content_value.ContentValue.{ContentValue}
use Rattle.cms_content.specs.declared.content_value.ContentValue.TheVariants as contents
use Rattle.cms_types.specs.Facts.SignedDatas.{determined_value}
use Rattle.cms_types.specs.Facts.SignerElements.{determined_data, same_data, same_signer}
use Rattle.cms_types.specs.Facts.SignerInfos.{determined_signer}
use Rattle.cms_types.specs.Pkcs7Elements.{pkcs7_of}
use Rattle.cms_types.specs.SignedData.{signed_data_elements}
use Rattle.cms_types.specs.SignedDataElements.{SignedDataElements, signed_data_of}
use Rattle.cms_types.specs.SignedView.{IsSignedView, data_elements}
use Rattle.cms_types.specs.SignerElements.{SignerElements}
use Rattle.cms_types.specs.SignerInfo.{signer_info, signer_elements}
use Rattle.cms_types.specs.declared.signed_data.SignedData.{SignedData}
use Rattle.cms_types.specs.declared.signed_data.view.SignedView.{SignedView}
use Rattle.cms_types.specs.declared.signer_info.SignerInfo.{SignerInfo}
use Rattle.der_core.specs.Optional.{members_of}
use Rattle.der_core.specs.DerElement.{DerElement, Primitive, Constructed, row}
use Rattle.der_core.specs.Elements.{sequence}
use Rattle.der_core.specs.Facts.Rows.{listed-row}
use Rattle.key_types.specs.AlgorithmIdentifier.{algorithm_identifier}
use Rattle.cms_content.specs.SpcAttribute.{spc_attribute}
use Rattle.authenticode_core.specs.Inside.Form.{AreSpelled}
use Rattle.authenticode_core.specs.SignedFields.{HasVersion, HasSignedContent, HasIndirectData, IndirectData}
use Rattle.authenticode_core.specs.SignedFields.{IsFirstAlgorithm, IsFirstSigner, indirect_kids, signers_of}

-- ---- the fields are those of a value

inside : (f g : SignedDataElements) → pkcs7_of (signed_data_of f) ≡ pkcs7_of (signed_data_of g) → signed_data_of f ≡ signed_data_of g
inside f g e = cc

pub fields_of_view : (element : DerElement) (view : SignedView) (is : IsSignedView element view)
    → data_elements view ≡ signed_data_elements is.value.signed_data
fields_of_view element view is =
    let f = data_elements view in
    let g = signed_data_elements is.value.signed_data in
    same_data f g (determined_data f is.fields) (determined_value is.value.signed_data) (inside f g (sym is.is ∙ is.spelled))

pub are_spelled : (element : DerElement) (view : SignedView) → IsSignedView element view → AreSpelled (data_elements view)
are_spelled element view is = (is.value.signed_data, fields_of_view element view is)

pub same_fields_of : (a b : SignedData) → pkcs7_of (signed_data_of (signed_data_elements a)) ≡ pkcs7_of (signed_data_of (signed_data_elements b))
    → signed_data_elements a ≡ signed_data_elements b
same_fields_of a b e = same_data (signed_data_elements a) (signed_data_elements b) (determined_value a) (determined_value b)
    (inside (signed_data_elements a) (signed_data_elements b) e)

-- ---- members

pub members_are_listed : (tag : ℕ) (kids : List DerElement) → members_of (Some (Constructed tag (row kids))) ≡ kids
members_are_listed tag kids = listed-row kids

-- the first signer is that of a value
pub signer_is_spelled : (f : SignedDataElements) (first : DerElement) (others : List DerElement) → AreSpelled f → signers_of f ≡ first ∷ others
    → (value : SignerInfo) × (first ≡ signer_info value)
signer_is_spelled f first others (v, is) e =
    head_of v.signers_infos (sym (members_are_listed 0x31 (map signer_info v.signers_infos)) ∙ sym (ap signers_of is) ∙ e) where
      head_of : (signers : List SignerInfo) → map signer_info signers ≡ first ∷ others → (value : SignerInfo) × (first ≡ signer_info value)
      head_of [] same = absurd cc
      head_of (signer ∷ signers) same = (signer, cc)

-- ---- the content

-- a content of the type is indirect data
indirect_value : (content : ContentValue) → kind_of_content content ≡ kinds.IndirectData
    → (d : IndirectData) × (content_value content ≡ sequence (indirect_kids d))
indirect_value (contents.SpcIndirectDataContent c) kind =
    (record { image = spc_attribute c.image; algorithm = algorithm_identifier c.message_digest.oid; digest = c.message_digest.digest }, refl)
indirect_value (contents.CertificateTrustList list) kind = absurd cc
indirect_value (contents.Data octets) kind = absurd cc
indirect_value (contents.Other kept) kind = absurd cc

indirect_option : (kind : ContentKind) (content : Option ContentValue) (element : DerElement) → HasKind kind content → kind ≡ kinds.IndirectData
    → Some element ≡ option_map content_value content
    → (d : IndirectData) × (element ≡ sequence (indirect_kids d))
indirect_option kind None element has named e = absurd cc
indirect_option kind (Some content) element has named e =
    let d = indirect_value content (has ∙ named) in
    let same : element ≡ content_value content = cc in
    (d.0, same ∙ d.1)

identified : (s t : List ℕ) → Primitive 0x06 s ≡ Primitive 0x06 t → s ≡ t
identified s t e = cc

pub indirect_is_spelled : (f : SignedDataElements) (content_type : List ℕ) (content : DerElement) → AreSpelled f
    → HasSignedContent f content_type (Some content) → content_type ≡ SPC_INDIRECT_DATA.now
    → (d : IndirectData) × (content ≡ sequence (indirect_kids d))
indirect_is_spelled f content_type content (v, is) has named =
    let info = v.content_info in
    let parts = fields_once (Primitive 0x06 content_type) (object_identifier info.content_type) (Some content) (option_map content_value info.content)
    (sym has ∙ ap (λ (g : SignedDataElements). g.content_info) is) in
    let oid : identifier_contents info.content_type ≡ SPC_INDIRECT_DATA.now =
    sym (identified content_type (identifier_contents info.content_type) parts.0) ∙ named in
    let kind : named_content (identifier_contents info.content_type) ≡ kinds.IndirectData = ap named_content oid in
    indirect_option (named_content (identifier_contents info.content_type)) info.content content info.fits kind parts.1

-- the type and the content, each found on its own
pub content_is : (f : SignedDataElements) (content_type : List ℕ) (other : DerElement) (content found : Option DerElement)
    → f.content_info ≡ content_info_of (Primitive 0x06 content_type) content → f.content_info ≡ content_info_of other found
    → HasSignedContent f content_type found
content_is f content_type other content found p q =
    p ∙ ap (content_info_of (Primitive 0x06 content_type)) (fields_once (Primitive 0x06 content_type) other content found (sym p ∙ q)).1

-- ---- each field is unique

pub version_once : (f : SignedDataElements) (a b : ℕ) → HasVersion f a → HasVersion f b → a ≡ b
version_once f a b p q =
    let same : Primitive 0x02 (a ∷ []) ≡ Primitive 0x02 (b ∷ []) = sym p ∙ q in
    cc

pub content_once : (f : SignedDataElements) (s t : List ℕ) (x y : Option DerElement) → HasSignedContent f s x → HasSignedContent f t y → (s ≡ t) × (x ≡ y)
content_once f s t x y p q =
    let parts = fields_once (Primitive 0x06 s) (Primitive 0x06 t) x y (sym p ∙ q) in
    (identified s t parts.0, parts.1)

same_indirect : (a b : IndirectData) → Some (sequence (indirect_kids a)) ≡ Some (sequence (indirect_kids b)) → a ≡ b
same_indirect a b e =
    let image : a.image ≡ b.image = cc in
    let algorithm : a.algorithm ≡ b.algorithm = cc in
    let digest : a.digest ≡ b.digest = cc in
    λ i. record { image = image i; algorithm = algorithm i; digest = digest i }

pub indirect_once : (f : SignedDataElements) (a b : IndirectData) → HasIndirectData f a → HasIndirectData f b → a ≡ b
indirect_once f a b p q =
    same_indirect a b (content_once f SPC_INDIRECT_DATA.now SPC_INDIRECT_DATA.now (Some (sequence (indirect_kids a))) (Some (sequence (indirect_kids b))) p q).1

heads : (a b : DerElement) (x y : List DerElement) → a ∷ x ≡ b ∷ y → a ≡ b
heads a b x y e = cc

pub algorithm_once : (f : SignedDataElements) (a b : DerElement) → IsFirstAlgorithm f a → IsFirstAlgorithm f b → a ≡ b
algorithm_once f a b p q = heads a b p.0 q.0 (sym p.1 ∙ q.1)

pub signer_once : (f : SignedDataElements) (a b : SignerElements) → IsFirstSigner f a → IsFirstSigner f b → a ≡ b
signer_once f a b p q =
    p.is ∙ same_signer (signer_elements p.value) (signer_elements q.value) (determined_signer p.value) (determined_signer q.value)
    (heads (signer_info p.value) (signer_info q.value) p.others q.others (sym p.first ∙ q.first)) ∙ sym q.is
