-- Attributes of entries: different ones have different elements, each well formed.
use Rattle.std.proofs.Common.{◌≡◌, [], ◌∷◌, refl, ap, sym, subst, ◌∙◌, arith}
use Rattle.der_core.specs.DerElement.{DerElement}
use Rattle.der_core.specs.Elements.{sequence}
use Rattle.der_core.specs.Structure.{IsGrammar}
use Rattle.der_core.specs.Facts.Grammars.{printed}
use Rattle.asn1_types.specs.Values.{identifier_contents}
use Rattle.asn1_types.specs.Elements.{object_identifier}
use Rattle.asn1_types.specs.Facts.Elements.{identifiers}
use Rattle.asn1_types.specs.declared.oid.ObjectIdentifier.{ObjectIdentifier}
use Rattle.cms_content.specs.CtlKind.{named_ctl}
use Rattle.cms_content.specs.CtlValues.{kind_of_ctl, ctl_values}
use Rattle.cms_content.specs.CtlAttribute.{ctl_attribute}
use Rattle.cms_content.specs.Facts.CtlKinds.{same_ctl_kinds}
use Rattle.cms_content.specs.Facts.CtlValues.{ctl_values_once, ctl_values_formed}
use Rattle.cms_content.specs.declared.ctl_attribute.CTLEntryAttribute.{CTLEntryAttribute}
use Rattle.cms_content.specs.declared.ctl_values.CTLEntryAttributeValues.{CTLEntryAttributeValues}

abbrev attribute_with : (oid : ObjectIdentifier) (value : CTLEntryAttributeValues) → kind_of_ctl value ≡ named_ctl (identifier_contents oid) → CTLEntryAttribute
attribute_with oid value fits = record { oid = oid; value = value; fits = fits }

pub same_ctl_attribute : (a b : CTLEntryAttribute) → a.oid ≡ b.oid → a.value ≡ b.value → a ≡ b
same_ctl_attribute a b oid value =
    let with_value : (h : kind_of_ctl b.value ≡ named_ctl (identifier_contents a.oid)) → a ≡ attribute_with a.oid b.value h =
    subst (λ (v : CTLEntryAttributeValues). (h : kind_of_ctl v ≡ named_ctl (identifier_contents a.oid)) → a ≡ attribute_with a.oid v h) value
    (λ h. ap (attribute_with a.oid a.value) (same_ctl_kinds (kind_of_ctl a.value) (named_ctl (identifier_contents a.oid)) a.fits h)) in
    subst (λ (i : ObjectIdentifier). (h : kind_of_ctl b.value ≡ named_ctl (identifier_contents i)) → a ≡ attribute_with i b.value h) oid with_value b.fits

same_two : (s t x y : DerElement) → sequence (s ∷ t ∷ []) ≡ sequence (x ∷ y ∷ []) → (s ≡ x) × (t ≡ y)
same_two s t x y e = (cc, cc)

attributes_once : (a b : CTLEntryAttribute) → ctl_attribute a ≡ ctl_attribute b → a ≡ b
attributes_once a b e =
    let same = same_two (object_identifier a.oid) (ctl_values a.value) (object_identifier b.oid) (ctl_values b.value) e in
    let oid = identifiers.once (object_identifier a.oid) a.oid b.oid refl same.0 in
    same_ctl_attribute a b oid
    (ctl_values_once a.value b.value (a.fits ∙ ap (λ (i : ObjectIdentifier). named_ctl (identifier_contents i)) oid ∙ sym b.fits) same.1)

pub ctl_attributes : IsGrammar (λ element a. element ≡ ctl_attribute a) ctl_attribute (λ a. [])
ctl_attributes =
    printed ctl_attribute attributes_once (λ a. ((omega arith, omega arith, omega arith), refl, (identifiers.formed a.oid, (ctl_values_formed a.value, tt))))
