-- Unsigned attributes and signed attributes, read from their elements.
use Rattle.std.proofs.Common.{◌≡◌, List, [], ◌∷◌, sym, ap, subst, ◌∙◌}
use Rattle.der_core.specs.DerElement.{DerElement}
use Rattle.der_core.specs.Elements.{sequence, set}
use Rattle.der_core.specs.Each.{AreEach}
use Rattle.der_core.specs.Owned.{KeptElement}
use Rattle.der_core.specs.Borrowed.{AreDer}
use Rattle.der_core.specs.Structure.{Fits}
use Rattle.der_core.specs.Facts.Lists.{each_written, written_each}
use Rattle.asn1_types.specs.Elements.{object_identifier}
use Rattle.asn1_types.specs.Values.{identifier_contents}
use Rattle.asn1_types.specs.declared.oid.ObjectIdentifier.{ObjectIdentifier}
use Rattle.asn1_types.specs.declared.oids.TheConstants.{COUNTERSIGNATURE, RFC3161_COUNTER_SIGN}
use Rattle.x509_types.specs.declared.attribute.Attribute.{Attribute}
use Rattle.cms_types.specs.Levels.{IsUnsignedOf}
use Rattle.cms_types.specs.Members.{element_of_kept, elements_of_kept}
use Rattle.cms_types.specs.Signers.{AreSignerInfos, ArePkcs7s}
use Rattle.x509_types.specs.Attribute.{AreAttributes}
use Rattle.cms_types.specs.SignedAttributesElement.{signed_attributes}
use Rattle.cms_types.specs.AttributeElement.{attribute_of}
use Rattle.cms_types.specs.UnsignedAttribute.{unsigned_attribute}
use Rattle.cms_types.specs.declared.signer_info.signed_attributes.SignedAttributes.{SignedAttributes}
use Rattle.cms_types.specs.declared.unsigned_attribute.UnsignedAttribute.{UnsignedAttribute}
use Rattle.cms_types.specs.declared.unsigned_attribute.kind.UnsignedKind.{UnsignedKind}
use Rattle.cms_types.specs.declared.unsigned_attribute.kind.UnsignedKind.TheVariants as kinds
use Rattle.cms_types.proofs.Signers.{unsigned_level, counter_values, ms_counter_values}
use Rattle.cms_types.proofs.SignerLaws.{keep_all, unsigned_of_value, of_counter, of_ms_counter, no_value}

abbrev is_kept : DerElement → KeptElement → Type 0
is_kept element kept = element ≡ kept.element

-- elements within limits can be stored
pub each_kept : (es : List DerElement) → AreDer es → Fits (AreEach is_kept) es
each_kept es der =
    let kept = keep_all es der in
    (kept.0, subst (λ (xs : List DerElement). AreEach is_kept xs kept.0) (sym kept.1) (written_each element_of_kept kept.0))

pub kept_are : (es : List DerElement) (kept : List KeptElement) → AreEach is_kept es kept → es ≡ elements_of_kept kept
kept_are es kept each = each_written element_of_kept es kept each

-- ---- refusals

pub no_level : (e : DerElement) (a : UnsignedAttribute) → e ≡ unsigned_attribute a
    → ((kind : UnsignedKind) (values : List DerElement) → IsUnsignedOf e kind values → ⊥) → ⊥
no_level e a is none = no_value (unsigned_of_value e a is) (λ u. let level = unsigned_level e u in none level.0 level.1 level.2)

pub no_counter : (e : DerElement) (kind : UnsignedKind) (values : List DerElement) (a : UnsignedAttribute) → e ≡ unsigned_attribute a → kind ≡ kinds.CounterSign
    → IsUnsignedOf e kind values → (AreSignerInfos values → ⊥) → ⊥
no_counter e kind values a is named of none =
    no_value (unsigned_of_value e a is) (λ u. none (counter_values e values u (subst (λ (k : UnsignedKind). IsUnsignedOf e k values) named of)))

pub no_ms_counter : (e : DerElement) (kind : UnsignedKind) (values : List DerElement) (a : UnsignedAttribute) → e ≡ unsigned_attribute a
    → kind ≡ kinds.MsCounterSign → IsUnsignedOf e kind values → (ArePkcs7s values → ⊥) → ⊥
no_ms_counter e kind values a is named of none =
    no_value (unsigned_of_value e a is) (λ u. none (ms_counter_values e values u (subst (λ (k : UnsignedKind). IsUnsignedOf e k values) named of)))

-- ---- what is read

pub counter_read : (e : DerElement) (kind : UnsignedKind) (values : List DerElement) (kept : List KeptElement) → kind ≡ kinds.CounterSign
    → IsUnsignedOf e kind values → AreEach is_kept values kept → e ≡ attribute_of COUNTERSIGNATURE.now (elements_of_kept kept)
counter_read e kind values kept named of each =
    of_counter e values (subst (λ (k : UnsignedKind). IsUnsignedOf e k values) named of) ∙ ap (attribute_of COUNTERSIGNATURE.now) (kept_are values kept each)

pub ms_counter_read : (e : DerElement) (kind : UnsignedKind) (values : List DerElement) (kept : List KeptElement) → kind ≡ kinds.MsCounterSign
    → IsUnsignedOf e kind values → AreEach is_kept values kept → e ≡ attribute_of RFC3161_COUNTER_SIGN.now (elements_of_kept kept)
ms_counter_read e kind values kept named of each =
    of_ms_counter e values (subst (λ (k : UnsignedKind). IsUnsignedOf e k values) named of)
    ∙ ap (attribute_of RFC3161_COUNTER_SIGN.now) (kept_are values kept each)

pub other_read : (e ty : DerElement) (values : List DerElement) (id : ObjectIdentifier) (kept : List KeptElement) → e ≡ sequence (ty ∷ set values ∷ [])
    → ty ≡ object_identifier id → AreEach is_kept values kept → e ≡ attribute_of (identifier_contents id) (elements_of_kept kept)
other_read e ty values id kept is spelled each =
    is ∙ ap (λ (t : DerElement). sequence (t ∷ set values ∷ [])) spelled ∙ ap (attribute_of (identifier_contents id)) (kept_are values kept each)

-- ---- signed attributes

pub no_signed : (e : DerElement) (v : SignedAttributes) → e ≡ signed_attributes v → ((list : List Attribute) → AreAttributes e list → ⊥) → ⊥
no_signed e v is none = no_value v.are (λ list. none v.list (subst (λ (t : DerElement). AreAttributes t v.list) (sym is) list))
