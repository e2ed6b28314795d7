-- Contents by kind.
use Rattle.std.proofs.Common.{◌≡◌, ◌↔◌, IsTrue, Bool, ℕ, List, Option, Some, ap, sym, subst, ◌∙◌}
use Rattle.std.specs.Option.{option_map, option_eq}
use Rattle.std.specs.Prelude.{bytes_eq}
use Rattle.std.proofs.Math.Logic.{∥∥₁_elim}
use Rattle.std.proofs.lemmas.Grind.{merely}
use Rattle.std.proofs.lemmas.Slice.Eq.{bytes_eq-Decides}
use Rattle.der_core.specs.DerElement.{DerElement, Primitive}
use Rattle.der_core.specs.Elements.{octet_string}
use Rattle.der_core.specs.Owned.{KeptElement}
use Rattle.der_core.specs.BorrowedOption.{at_option}
use Rattle.der_core.specs.Facts.Equality.{options_same, same_tests}
use Rattle.der_core.specs.declared.elem.Elem.{Elem}
use Rattle.asn1_types.specs.Values.{identifier_contents}
use Rattle.asn1_types.specs.Elements.{object_identifier}
use Rattle.asn1_types.specs.declared.oid.ObjectIdentifier.{ObjectIdentifier}
use Rattle.cms_content.specs.CtlElement.{ctl}
use Rattle.cms_content.specs.IndirectData.{indirect_data_content}
use Rattle.cms_content.specs.ContentKind.{named_content}
use Rattle.cms_content.specs.ContentValue.{kind_of_content, content_value, IsContentOf, HasKind, SpellsContent, content_octets}
use Rattle.cms_content.specs.ContentInfoElements.{content_info_of}
use Rattle.cms_content.specs.ContentInfo.{content_info}
use Rattle.cms_content.specs.BorrowedContent.{lent_content, HasContent}
use Rattle.cms_content.specs.Facts.ContentInfos.{fields_once, same_info, values_by_octets}
use Rattle.cms_content.specs.declared.content_kind.ContentKind.{ContentKind}
use Rattle.cms_content.specs.declared.ctl.Ctl.{Ctl}
use Rattle.cms_content.specs.declared.content_kind.ContentKind.TheVariants as kinds
use Rattle.cms_content.specs.declared.content_value.ContentValue.{ContentValue}
use Rattle.cms_content.specs.declared.content_value.ContentValue.TheVariants as contents
use Rattle.cms_content.specs.declared.content_info.EncapsulatedContentInfo.{EncapsulatedContentInfo}
use Rattle.cms_content.specs.declared.indirect_data.SpcIndirectDataContent.{SpcIndirectDataContent}

-- ---- a content of a kind is one of the kind's own

abbrev Held : ContentKind → DerElement → Type 0
Held kinds.IndirectData element = (content : SpcIndirectDataContent) × (element ≡ indirect_data_content content)
Held kinds.CertificateTrustList element = (list : Ctl) × (element ≡ ctl list)
Held kinds.Data element = (octets : List ℕ) × (element ≡ octet_string octets)
Held kinds.Other element = (kept : KeptElement) × (element ≡ kept.element)

held : (element : DerElement) (content : ContentValue) → element ≡ content_value content → Held (kind_of_content content) element
held element (contents.SpcIndirectDataContent x) is = (x, is)
held element (contents.CertificateTrustList x) is = (x, is)
held element (contents.Data x) is = (x, is)
held element (contents.Other x) is = (x, is)

held_of : (kind named : ContentKind) (element : DerElement) (content : ContentValue) → kind ≡ named → IsContentOf kind element content → Held named element
held_of kind named element content is of = subst (λ (k : ContentKind). Held k element) (of.0 ∙ is) (held element content of.1)

pub other_of : (kind : ContentKind) (element : DerElement) (content : ContentValue) → kind ≡ kinds.Other → IsContentOf kind element content
    → (kept : KeptElement) × (element ≡ kept.element)
other_of kind element content is of = held_of kind kinds.Other element content is of

pub list_of : (kind : ContentKind) (element : DerElement) (content : ContentValue) → kind ≡ kinds.CertificateTrustList → IsContentOf kind element content
    → (list : Ctl) × (element ≡ ctl list)
list_of kind element content is of = held_of kind kinds.CertificateTrustList element content is of

-- ---- an optional content

pub some_content : (kind : ContentKind) (o : Option Elem) (e : Elem) (content : ContentValue) → o ≡ Some e → IsContentOf kind e.is.0 content
    → SpellsContent kind (at_option o) (Some content)
some_content kind o e content is of = (of.0, ap at_option is ∙ ap Some of.1)

-- ---- contents with their types

pub of_fields : (element : DerElement) (ty : DerElement) (content : Option DerElement) (id : ObjectIdentifier) (kind : ContentKind)
    (value : Option ContentValue) → element ≡ content_info_of ty content
    → ty ≡ object_identifier id → kind ≡ named_content (identifier_contents id) → SpellsContent kind content value
    → (info : EncapsulatedContentInfo) × (element ≡ content_info info)
of_fields element ty content id kind value is named same spelled = (
  record { content_type = id; content = value; fits = subst (λ (k : ContentKind). HasKind k value) same spelled.0 },
  is ∙ ap (λ (t : DerElement). content_info_of t content) named ∙ ap (content_info_of (object_identifier id)) spelled.1,
)

-- the fields of the element encode those of the value
pub by_fields : (element : DerElement) (ty : DerElement) (content : Option DerElement) (info : EncapsulatedContentInfo) → element ≡ content_info_of ty content
    → element ≡ content_info info
    → (ty ≡ object_identifier info.content_type) × (content ≡ option_map content_value info.content)
by_fields element ty content info is spelled =
    fields_once ty (object_identifier info.content_type) content (option_map content_value info.content) (sym is ∙ spelled)

-- the view taken from an element borrows its fields
pub lies : (element ty : DerElement) (content : Option DerElement) (octets : List ℕ) → element ≡ content_info_of ty content → ty ≡ Primitive 0x06 octets
    → element ≡ lent_content octets content
lies element ty content octets is named = is ∙ ap (λ (t : DerElement). content_info_of t content) named

-- what is known of an element is known of its fields
pub known_fits : (element ty : DerElement) (content : Option DerElement) (octets : List ℕ) → element ≡ content_info_of ty content → ty ≡ Primitive 0x06 octets
    → ∥ ((info : EncapsulatedContentInfo) × (element ≡ content_info info)) ∥₁ → ∥ HasContent octets content ∥₁
known_fits element ty content octets is named known =
    ∥∥₁_elim known (λ a b. squash₁ a b) (λ fit. merely (fit.0, sym (lies element ty content octets is named) ∙ fit.1))

-- ---- equality

abbrev same_contents : ContentValue → ContentValue → Bool
same_contents a b = bytes_eq (content_octets a) (content_octets b)

-- the value determines a content of one type
pub by_content : (a b : EncapsulatedContentInfo) (t : Bool) → a.content_type ≡ b.content_type → (IsTrue t ↔ (a.content ≡ b.content)) → IsTrue t ↔ (a ≡ b)
by_content a b t ty content = (λ w. same_info a b ty (content.0 w), λ e. content.1 (ap (λ (x : EncapsulatedContentInfo). x.content) e))

-- a test for equality is one of kind and octets
pub decided_by_octets : (a b : ContentValue) (t : Bool) → (IsTrue t ↔ (a ≡ b)) → t ≡ bytes_eq (content_octets a) (content_octets b)
decided_by_octets a b t same =
    let decides = bytes_eq-Decides (content_octets a) (content_octets b) in
    same_tests t (bytes_eq (content_octets a) (content_octets b)) same (λ w. values_by_octets a b (decides.0 w), λ e. decides.1 (ap content_octets e))

pub contents_same : (a b : Option ContentValue) (t : Bool) → t ≡ option_eq same_contents a b → IsTrue t ↔ (a ≡ b)
contents_same a b t test =
    let one : (x y : ContentValue) → IsTrue (same_contents x y) ↔ (x ≡ y) = λ x y.
    let decides = bytes_eq-Decides (content_octets x) (content_octets y) in
    (λ w. values_by_octets x y (decides.0 w), λ e. decides.1 (ap content_octets e)) in
    let same = options_same same_contents one a b in
    (λ w. same.0 (sym test ∙ w), λ e. test ∙ same.1 e)
