-- Names and their parts: different values have different elements, each well formed.
use Rattle.std.proofs.Common.{◌≡◌, ℕ, List, [], refl, sym, ap, subst, ◌∙◌, arith, inl, inr}
use Rattle.std.specs.Prelude.{◌==◌, if◌then◌else◌}
use Rattle.std.proofs.Props.{props}
use base.Stored.{Coded}
use Rattle.der_core.specs.Facts.Codes.{stored, stored_inj}
use Rattle.der_core.specs.DerElement.{DerElement, tag_of}
use Rattle.der_core.specs.Encoding.{IsWellFormed}
use Rattle.der_core.specs.Structure.{IsGrammar}
use Rattle.der_core.specs.Owned.{KeptElement}
use Rattle.der_core.specs.Facts.Grammars.{printed, printed_lists, list_once}
use Rattle.der_core.specs.Facts.Owned.{same_kept}
use Rattle.asn1_types.specs.Elements.{object_identifier, ia5_string}
use Rattle.asn1_types.specs.Facts.Elements.{identifiers, ia5_strings}
use Rattle.asn1_types.specs.declared.oid.ObjectIdentifier.{ObjectIdentifier}
use Rattle.asn1_types.specs.declared.ia5_string.Ia5String.{Ia5String}
use Rattle.name_types.specs.DirectoryString.{string_tag, string_octets, directory_string, IsStringTag}
use Rattle.name_types.specs.OtherValue.{IsOtherValue}
use Rattle.name_types.specs.AttributeValue.{attribute_value}
use Rattle.name_types.specs.Name.{attribute_type_and_value, relative_distinguished_name, name, IsRelativeDistinguishedName, IsName}
use Rattle.name_types.specs.declared.directory_string.DirectoryString.{DirectoryString}
use Rattle.name_types.specs.declared.directory_string.DirectoryString.TheVariants as strings
use Rattle.name_types.specs.declared.attribute_value.AttributeValue.{AttributeValue}
use Rattle.name_types.specs.declared.attribute_value.AttributeValue.TheVariants as values
use Rattle.name_types.specs.declared.other_value.OtherValue.{OtherValue}
use Rattle.name_types.specs.declared.attribute.AttributeTypeAndValue.{AttributeTypeAndValue}

-- ---- strings, by their tags

abbrev string_of : ℕ → List ℕ → DirectoryString
string_of tag octets =
    if tag == 0x0C then strings.Utf8String octets
    else (if tag == 0x13 then strings.PrintableString octets
    else (if tag == 0x14 then strings.TeletexString octets else strings.BmpString octets))

of_parts : (string : DirectoryString) → string_of (string_tag string) (string_octets string) ≡ string
of_parts (strings.Utf8String octets) = refl
of_parts (strings.PrintableString octets) = refl
of_parts (strings.TeletexString octets) = refl
of_parts (strings.BmpString octets) = refl

pub same_string : (a b : DirectoryString) → string_tag a ≡ string_tag b → string_octets a ≡ string_octets b → a ≡ b
same_string a b tags octets =
    sym (of_parts a) ∙ ap (λ (tag : ℕ). string_of tag (string_octets a)) tags ∙ ap (string_of (string_tag b)) octets ∙ of_parts b

strings_once : (a b : DirectoryString) → directory_string a ≡ directory_string b → a ≡ b
strings_once a b e = let tags : string_tag a ≡ string_tag b = cc in let octets : string_octets a ≡ string_octets b = cc in same_string a b tags octets

strings_formed : (a : DirectoryString) → IsWellFormed (directory_string a)
strings_formed (strings.Utf8String octets) = ((omega arith, omega arith, omega arith), refl)
strings_formed (strings.PrintableString octets) = ((omega arith, omega arith, omega arith), refl)
strings_formed (strings.TeletexString octets) = ((omega arith, omega arith, omega arith), refl)
strings_formed (strings.BmpString octets) = ((omega arith, omega arith, omega arith), refl)

pub directory_strings : IsGrammar (λ element string. element ≡ directory_string string) directory_string (λ string. [])
directory_strings = printed directory_string strings_once strings_formed

pub is_string_tag : (string : DirectoryString) → IsStringTag (string_tag string)
is_string_tag (strings.Utf8String octets) = inl (inl (inl refl))
is_string_tag (strings.PrintableString octets) = inl (inl (inr refl))
is_string_tag (strings.TeletexString octets) = inl (inr refl)
is_string_tag (strings.BmpString octets) = inr refl

-- ---- values

pub not_ia5 : (a : DirectoryString) → string_tag a ≡ 0x16 → ⊥
not_ia5 (strings.Utf8String octets) e = omega (arith, e)
not_ia5 (strings.PrintableString octets) e = omega (arith, e)
not_ia5 (strings.TeletexString octets) e = omega (arith, e)
not_ia5 (strings.BmpString octets) e = omega (arith, e)

pub no_ia5 : (a : DirectoryString) (b : Ia5String) → directory_string a ≡ ia5_string b → ⊥
no_ia5 a b e = not_ia5 a (ap tag_of e)

IsOtherValue-prop : (element : DerElement) → IsProp (IsOtherValue element)
IsOtherValue-prop element = hlevel props

abbrev other_of : (element : KeptElement) → IsOtherValue element.element → OtherValue
other_of element other = record { element = element; other = other }

pub same_other : (a b : OtherValue) → a.element.element ≡ b.element.element → a ≡ b
same_other a b e =
    subst (λ (x : KeptElement). (h : IsOtherValue x.element) → a ≡ other_of x h) (same_kept a.element b.element e)
    (λ h. ap (other_of a.element) (IsOtherValue-prop a.element.element a.other h)) b.other

values_once : (a b : AttributeValue) → attribute_value a ≡ attribute_value b → a ≡ b
values_once (values.DirectoryString x) (values.DirectoryString y) e = ap values.DirectoryString (strings_once x y e)
values_once (values.DirectoryString x) (values.Ia5String y) e = absurd (no_ia5 x y e)
values_once (values.DirectoryString x) (values.Other y) e = absurd (y.other.no_directory_string x (sym e))
values_once (values.Ia5String x) (values.DirectoryString y) e = absurd (no_ia5 y x (sym e))
values_once (values.Ia5String x) (values.Ia5String y) e = ap values.Ia5String (ia5_strings.once (ia5_string x) x y refl e)
values_once (values.Ia5String x) (values.Other y) e = absurd (y.other.no_ia5_string x (sym e))
values_once (values.Other x) (values.DirectoryString y) e = absurd (x.other.no_directory_string y e)
values_once (values.Other x) (values.Ia5String y) e = absurd (x.other.no_ia5_string y e)
values_once (values.Other x) (values.Other y) e = ap values.Other (same_other x y e)

values_formed : (a : AttributeValue) → IsWellFormed (attribute_value a)
values_formed (values.DirectoryString x) = strings_formed x
values_formed (values.Ia5String x) = ia5_strings.formed x
values_formed (values.Other x) = x.element.der.formed

pub attribute_values : IsGrammar (λ element value. element ≡ attribute_value value) attribute_value (λ value. [])
attribute_values = printed attribute_value values_once values_formed

-- ---- attributes

attributes_once : (a b : AttributeTypeAndValue) → attribute_type_and_value a ≡ attribute_type_and_value b → a ≡ b
attributes_once a b e =
    let types : object_identifier a.ty ≡ object_identifier b.ty = cc in
    let elements : attribute_value a.value ≡ attribute_value b.value = cc in
    ap (λ (t : ObjectIdentifier). record { ty = t; value = a.value }) (identifiers.once (object_identifier a.ty) a.ty b.ty refl types)
    ∙ ap (λ (v : AttributeValue). record { ty = b.ty; value = v }) (values_once a.value b.value elements)

pub attributes : IsGrammar (λ element attribute. element ≡ attribute_type_and_value attribute) attribute_type_and_value (λ attribute. [])
attributes = printed attribute_type_and_value attributes_once
    (λ a. ((omega arith, omega arith, omega arith), refl, (identifiers.formed a.ty, (values_formed a.value, tt))))

-- ---- sets and names

pub relative_distinguished_names : IsGrammar IsRelativeDistinguishedName relative_distinguished_name (λ members. [])
relative_distinguished_names = printed_lists 0x31 attribute_type_and_value (omega arith, omega arith, omega arith) refl attributes_once attributes.formed

pub sets_once : (a b : List AttributeTypeAndValue) → relative_distinguished_name a ≡ relative_distinguished_name b → a ≡ b
sets_once = list_once 0x31 attribute_type_and_value attributes_once

pub names : IsGrammar IsName name (λ sets. [])
names = printed_lists 0x30 relative_distinguished_name (omega arith, omega arith, omega arith) refl sets_once relative_distinguished_names.formed

-- ---- sets and names have codes: those of their elements

abbrev pub coded_set : Coded (List AttributeTypeAndValue)
coded_set = record {
  code = λ members. stored (relative_distinguished_name members);
  inj = λ a b e. sets_once a b (stored_inj (relative_distinguished_name a) (relative_distinguished_name b) e);
}

abbrev pub coded_name : Coded (List (List AttributeTypeAndValue))
coded_name = record { code = λ sets. stored (name sets); inj = λ a b e. names.once (name a) a b refl (stored_inj (name a) (name b) e) }
