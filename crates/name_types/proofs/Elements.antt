-- Elements by their tags.
use Rattle.std.proofs.Common.{◌≡◌, ℕ, ◌≤◌, List, [], ◌∷◌, refl, sym, ap, subst, ◌∙◌, arith, inl, inr, ◌⊎◌}
use Rattle.std.proofs.lemmas.List.Elements.{All-head, All-tail, All-cons}
use Rattle.std.proofs.lemmas.Bool.{cases_eq, cases_lt}
use Rattle.der_core.specs.DerElement.{DerElement, Primitive, Constructed, tag_of}
use Rattle.der_core.specs.Encoding.{form_bit, IsDer}
use Rattle.der_core.specs.Borrowed.{IsElem}
use Rattle.asn1_types.specs.Elements.{ia5_string}
use Rattle.asn1_types.specs.Ia5String.{IsIa5}
use Rattle.asn1_types.specs.declared.ia5_string.Ia5String.{Ia5String}
use Rattle.name_types.specs.DirectoryString.{directory_string, IsStringTag}
use Rattle.name_types.specs.Facts.Names.{is_string_tag}
use Rattle.name_types.specs.AttributeValue.{attribute_value}
use Rattle.name_types.specs.declared.directory_string.DirectoryString.{DirectoryString}
use Rattle.name_types.specs.declared.directory_string.DirectoryString.TheVariants as strings
use Rattle.name_types.specs.declared.attribute_value.AttributeValue.{AttributeValue}
use Rattle.name_types.specs.declared.attribute_value.AttributeValue.TheVariants as values

-- an element whose tag is of the primitive form is primitive
pub primitive_at : (whole : List ℕ) (tag : ℕ) (content : List ℕ) (element : DerElement) → IsElem whole tag content element → form_bit tag ≡ 0
    → element ≡ Primitive tag content
primitive_at whole tag content (Primitive t c) is bit = ap (λ s. Primitive s c) (sym is.2) ∙ ap (Primitive tag) (sym is.3)
primitive_at whole tag content (Constructed t kids) is bit = absurd (omega (arith, is.0.formed.1, ap form_bit is.2))

-- a primitive element with the tag of a string is that string
pub string_at : (tag : ℕ) (content : List ℕ) → IsStringTag tag → (string : DirectoryString) × (Primitive tag content ≡ directory_string string)
string_at tag content (inl (inl (inl e))) = (strings.Utf8String content, ap (λ t. Primitive t content) e)
string_at tag content (inl (inl (inr e))) = (strings.PrintableString content, ap (λ t. Primitive t content) e)
string_at tag content (inl (inr e)) = (strings.TeletexString content, ap (λ t. Primitive t content) e)
string_at tag content (inr e) = (strings.BmpString content, ap (λ t. Primitive t content) e)

form_of_string : (tag : ℕ) → IsStringTag tag → form_bit tag ≡ 0
form_of_string tag (inl (inl (inl e))) = ap form_bit e
form_of_string tag (inl (inl (inr e))) = ap form_bit e
form_of_string tag (inl (inr e)) = ap form_bit e
form_of_string tag (inr e) = ap form_bit e

pub lent_string : (whole : List ℕ) (tag : ℕ) (content : List ℕ) (element : DerElement) → IsElem whole tag content element → IsStringTag tag
    → (string : DirectoryString) × (element ≡ directory_string string)
lent_string whole tag content element is string =
    let s = string_at tag content string in
    (s.0, primitive_at whole tag content element is (form_of_string tag string) ∙ s.1)

pub no_string : (whole : List ℕ) (tag : ℕ) (content : List ℕ) (element : DerElement) → IsElem whole tag content element → (IsStringTag tag → ⊥)
    → (string : DirectoryString) → element ≡ directory_string string → ⊥
no_string whole tag content element is none string e = none (subst IsStringTag (sym (is.2 ∙ ap tag_of e)) (is_string_tag string))

pub string_or_not : (tag : ℕ) → IsStringTag tag ⊎ (IsStringTag tag → ⊥)
string_or_not tag =
    elim (cases_eq tag 0x0C) [
      | inl a ↦ inl (inl (inl (inl a)))
      | inr a ↦ elim (cases_eq tag 0x13) [
        | inl b ↦ inl (inl (inl (inr b)))
        | inr b ↦ elim (cases_eq tag 0x14) [
          | inl c ↦ inl (inl (inr c))
          | inr c ↦ elim (cases_eq tag 0x1E) [ inl d ↦ inl (inr d) | inr d ↦ inr (none_of a b c d) ]
        ]
      ]
    ]
  where
    none_of : (tag ≡ 0x0C → ⊥) → (tag ≡ 0x13 → ⊥) → (tag ≡ 0x14 → ⊥) → (tag ≡ 0x1E → ⊥) → IsStringTag tag → ⊥
    none_of a b c d (inl (inl (inl e))) = a e
    none_of a b c d (inl (inl (inr e))) = b e
    none_of a b c d (inl (inr e)) = c e
    none_of a b c d (inr e) = d e

pub ia5_or_not : (text : List ℕ) → IsIa5 text ⊎ (IsIa5 text → ⊥)
ia5_or_not [] = inl (λ k d below. absurd (omega (arith, below)))
ia5_or_not (octet ∷ text) =
    elim (cases_lt octet 128) [
      | inr past ↦ inr (λ all. omega (arith, past, All-head (λ (o : ℕ). o ≤ 127) octet text all))
      | inl low ↦ elim (ia5_or_not text) [
        | inl all ↦ inl (All-cons (λ (o : ℕ). o ≤ 127) octet text (omega arith) all)
        | inr none ↦ inr (λ all. none (All-tail (λ (o : ℕ). o ≤ 127) octet text all))
      ]
    ]

other_at : (element : DerElement) → IsDer element → ((string : DirectoryString) → element ≡ directory_string string → ⊥)
    → ((string : Ia5String) → element ≡ ia5_string string → ⊥) → (value : AttributeValue) × (element ≡ attribute_value value)
other_at element der no_string no_ia5 = (
  values.Other (record { element = record { element = element; der = der }; other = record { no_directory_string = no_string; no_ia5_string = no_ia5 } }),
  refl,
)

-- any element is the value of some attribute
pub value_at : (whole : List ℕ) (tag : ℕ) (content : List ℕ) (element : DerElement) → IsElem whole tag content element
    → (value : AttributeValue) × (element ≡ attribute_value value)
value_at whole tag content element is =
    elim (string_or_not tag) [
      | inl string ↦ let s = lent_string whole tag content element is string in (values.DirectoryString s.0, s.1)
      | inr none ↦ elim (cases_eq tag 0x16) [
        | inr other ↦ other_at element is.0 (no_string whole tag content element is none) (λ string e. other (is.2 ∙ ap tag_of e))
        | inl ia5 ↦
            let here = primitive_at whole tag content element is (ap form_bit ia5) ∙ ap (λ t. Primitive t content) ia5 in
            elim (ia5_or_not content) [
              | inl ascii ↦ (values.Ia5String (record { text = content; ascii = ascii }), here)
              | inr wide ↦ other_at element is.0 (no_string whole tag content element is none) (λ string e. not_ascii string (sym here ∙ e) wide)
            ]
      ]
    ]
  where
    not_ascii : (string : Ia5String) → Primitive 0x16 content ≡ ia5_string string → (IsIa5 content → ⊥) → ⊥
    not_ascii string e wide = let same : content ≡ string.text = cc in wide (subst IsIa5 (sym same) string.ascii)
