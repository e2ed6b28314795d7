-- How extensions and attributes may be encoded.
use Rattle.std.proofs.Common.{◌≡◌, ◌⊎◌, inl, inr, ℕ, List, [], ◌∷◌, ◌++◌, refl, sym, ap, subst, ◌∙◌}
use Rattle.std.specs.Prelude.{Bool}
use Rattle.der_core.specs.DerElement.{DerElement, Primitive}
use Rattle.der_core.specs.Encoding.{encoding}
use Rattle.der_core.specs.Each.{AreEach, IsListOf}
use Rattle.der_core.specs.Elements.{sequence, octet_string}
use Rattle.der_core.specs.Facts.Lists.{printed_list}
use Rattle.der_core.specs.Owned.{KeptElement}
use Rattle.der_core.specs.Structure.{IsWithin}
use Rattle.der_core.specs.Default.{IsDefaultFalse}
use Rattle.asn1_types.specs.Elements.{object_identifier}
use Rattle.der_core.specs.Default.{default_false}
use Rattle.extension_types.specs.BasicConstraints.{IsBasicConstraints}
use Rattle.extension_types.specs.Facts.Constraints.{true_or_not_der, constraints_spelled}
use Rattle.extension_types.specs.declared.basic_constraints.BasicConstraints.{BasicConstraints}
use Rattle.x509_types.specs.ExtensionView.{value_octets, IsValueIn}
use Rattle.x509_types.specs.Extension.{IsExtension}
use Rattle.x509_types.specs.Facts.ExtensionViews.{written_or_constraints}
use Rattle.x509_types.specs.ExtensionSpellings.{HasOtherFlag, HasOtherConstraints, IsSpelling}
use Rattle.x509_types.specs.TbsCertificate.{IsExtensions}
use Rattle.x509_types.specs.AttributeValues.{AreAttributeValues}
use Rattle.x509_types.specs.Attribute.{IsAttribute}
use Rattle.x509_types.specs.AttributeSpellings.{AreSpelling, IsAttributeSpelling}
use Rattle.x509_types.specs.declared.attribute.Attribute.{Attribute}
use Rattle.x509_types.specs.declared.attribute.values.AttributeValues.{AttributeValues}
use Rattle.x509_types.specs.declared.attribute.values.AttributeValues.TheVariants as variants
use Rattle.x509_types.specs.declared.extension.Extension.{Extension}
use Rattle.x509_types.specs.declared.extension.view.ExtensionView.{ExtensionView}
use Rattle.x509_types.specs.declared.extension.view.ExtensionView.TheVariants as views

flag_stands : (element oid : DerElement) (critical : Bool) (octets : List ℕ) (flag : List DerElement)
    → element ≡ sequence (oid ∷ (flag ++ Primitive 0x04 octets ∷ [])) → IsDefaultFalse flag critical
    → (flag ≡ default_false critical) ⊎ HasOtherFlag element oid critical octets
flag_stands element oid critical octets [] is flagged = inl (subst (λ (b : Bool). [] ≡ default_false b) (sym flagged) refl)
flag_stands element oid critical octets (kid ∷ []) is flagged =
    elim (true_or_not_der kid critical flagged) [
      | inl (same, set) ↦ inl (subst (λ (b : Bool). kid ∷ [] ≡ default_false b) (sym set) (ap (λ (k : DerElement). k ∷ []) same))
      | inr other ↦ inr (record {
        octet = flagged.0;
        other = other;
        flagged = flagged.2;
        is = is ∙ ap (λ (k : DerElement). sequence (oid ∷ k ∷ Primitive 0x04 octets ∷ [])) flagged.1;
      })
    ]
flag_stands element oid critical octets (kid ∷ more ∷ kids) is flagged = absurd flagged

constraints_stand : (octets : List ℕ) (view : ExtensionView) (b : BasicConstraints) → view ≡ views.BasicConstraints b → IsWithin IsBasicConstraints octets b
    → (octets ≡ value_octets view) ⊎ HasOtherConstraints octets view
constraints_stand octets view b valued within =
    elim (constraints_spelled within.element b within.spelled) [
      | inl same ↦ inl (within.encoded ∙ ap encoding same ∙ ap value_octets (sym valued))
      | inr other ↦ inr (record { element = within.element; constraints = b; other = other; valued = valued; are = within.encoded })
    ]

value_stands : (octets : List ℕ) (view : ExtensionView) → IsValueIn octets view → (octets ≡ value_octets view) ⊎ HasOtherConstraints octets view
value_stands octets view value =
    elim (written_or_constraints octets view value) [
      | inl same ↦ inl same
      | inr (b, valued, within) ↦ constraints_stand octets view b valued within
    ]

pub extension_spelling : (element : DerElement) (e : Extension) → IsExtension element e → IsSpelling element e
extension_spelling element e is = record {
  is = is;
  flag = flag_stands element (object_identifier e.extn_id) e.critical is.octets is.fields.flag is.fields.is is.fields.flagged;
  value = value_stands is.octets e.extn_value is.value;
  same = λ flag value. is.fields.is
      ∙ ap (λ (f : List DerElement). sequence (object_identifier e.extn_id ∷ (f ++ Primitive 0x04 is.octets ∷ []))) flag
      ∙ ap (λ (o : List ℕ). sequence (object_identifier e.extn_id ∷ (default_false e.critical ++ Primitive 0x04 o ∷ []))) value;
}

each_spelling : (elements : List DerElement) (es : List Extension) → AreEach IsExtension elements es → AreEach IsSpelling elements es
each_spelling [] [] each = tt
each_spelling [] (e ∷ es) each = absurd each
each_spelling (element ∷ elements) [] each = absurd each
each_spelling (element ∷ elements) (e ∷ es) each = (extension_spelling element e each.0, each_spelling elements es each.1)

pub list_spelling : (element : DerElement) (es : List Extension) → IsExtensions element es → IsListOf 0x30 IsSpelling element es
list_spelling element es is = record { kids = is.kids; holds = is.holds; each = each_spelling is.kids es is.each }

each_list : (elements : List DerElement) (lists : List (List Extension)) → AreEach IsExtensions elements lists
    → AreEach (IsListOf 0x30 IsSpelling) elements lists
each_list [] [] each = tt
each_list [] (es ∷ lists) each = absurd each
each_list (element ∷ elements) [] each = absurd each
each_list (element ∷ elements) (es ∷ lists) each = (list_spelling element es each.0, each_list elements lists each.1)

values_spelling : (element : DerElement) (vs : AttributeValues) → AreAttributeValues element vs → AreSpelling element vs
values_spelling element (variants.ContentType types) are = printed_list object_identifier 0x31 element types are
values_spelling element (variants.MessageDigest digests) are = printed_list octet_string 0x31 element digests are
values_spelling element (variants.Extensions requests) are = record { kids = are.kids; holds = are.holds; each = each_list are.kids requests are.each }
values_spelling element (variants.Raw kept) are = printed_list (λ (k : KeptElement). k.element) 0x31 element kept are

pub attribute_spelling : (element : DerElement) (a : Attribute) → IsAttribute element a → IsAttributeSpelling element a
attribute_spelling element a is = record { values = is.values; is = is.is; alike = values_spelling is.values a.value is.spelled }
