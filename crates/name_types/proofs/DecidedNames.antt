-- Whether octets encode general names can be decided.
use Rattle.std.proofs.Common.{◌≡◌, ℕ, List, map, Option, Some, None, refl, sym, ap, subst, ◌∙◌, inl, inr, ◌⊎◌}
use Rattle.der_core.specs.DerElement.{DerElement, Primitive, Constructed, Nil, Cons, row, tag_of}
use Rattle.der_core.specs.Elements.{explicit}
use Rattle.der_core.specs.Encoding.{encoding, IsDer}
use Rattle.der_core.specs.Head.{IsOctets}
use Rattle.der_core.specs.Owned.{KeptElement}
use Rattle.der_core.specs.Borrowed.{contents_octets}
use Rattle.der_core.specs.Structure.{IsWithin, FitsWithin}
use Rattle.der_core.proofs.Decided.{whole_or_not}
use Rattle.der_core.proofs.DecidedValues.{IsSomeOrNone, in_form, leaf_or_not, branch_or_not, two_or_not, only_or_not, each_or_not}
use Rattle.der_core.proofs.Exact.{whole_once}
use Rattle.asn1_types.specs.Elements.{object_identifier}
use Rattle.asn1_types.specs.Ia5String.{IsIa5}
use Rattle.asn1_types.specs.Values.{identifier_contents, ia5_contents}
use Rattle.asn1_types.specs.declared.oid.ObjectIdentifier.{ObjectIdentifier}
use Rattle.asn1_types.proofs.DecidedValues.{oid_or_not}
use Rattle.name_types.specs.AttributeValue.{attribute_value}
use Rattle.name_types.specs.DirectoryString.{directory_string, IsStringTag}
use Rattle.name_types.specs.GeneralName.{other_name, edi_party_name, general_name, general_names, AreGeneralNames}
use Rattle.name_types.specs.Name.{attribute_type_and_value, relative_distinguished_name, name}
use Rattle.name_types.specs.Facts.GeneralNames.{party_of}
use Rattle.name_types.specs.Facts.Names.{is_string_tag}
use Rattle.name_types.specs.declared.attribute_value.AttributeValue.{AttributeValue}
use Rattle.name_types.specs.declared.directory_string.DirectoryString.{DirectoryString}
use Rattle.name_types.specs.declared.general_name.RawGeneralName.{RawGeneralName}
use Rattle.name_types.specs.declared.general_name.RawGeneralName.TheVariants as forms
use Rattle.name_types.proofs.Elements.{string_at, string_or_not, ia5_or_not, value_at}

-- ---- a Name

oid_element_or_not : (element : DerElement) → IsDer element → IsSomeOrNone object_identifier element
oid_element_or_not element der = leaf_or_not 0x06 identifier_contents oid_or_not element

some_value : (element : DerElement) → IsDer element → IsSomeOrNone attribute_value element
some_value element der = inl (value_at (encoding element) (tag_of element) (contents_octets element) element (der, refl, refl, refl))

attribute_or_not : (element : DerElement) → IsDer element → IsSomeOrNone attribute_type_and_value element
attribute_or_not element der =
    in_form (λ (p : ObjectIdentifier × AttributeValue). Constructed 0x30 (Cons (object_identifier p.0) (Cons (attribute_value p.1) Nil)))
    attribute_type_and_value
    (λ p. record { ty = p.0; value = p.1 }) (λ attribute. (attribute.ty, attribute.value)) element (λ p. refl) (λ attribute. refl)
    (branch_or_not 0x30 (λ (p : ObjectIdentifier × AttributeValue). Cons (object_identifier p.0) (Cons (attribute_value p.1) Nil))
    (two_or_not object_identifier (λ (v : AttributeValue). Cons (attribute_value v) Nil) oid_element_or_not (only_or_not attribute_value some_value))
    element der)

set_or_not : (element : DerElement) → IsDer element → IsSomeOrNone relative_distinguished_name element
set_or_not element der =
    branch_or_not 0x31 (λ members. row (map attribute_type_and_value members)) (each_or_not attribute_type_and_value attribute_or_not) element der

name_or_not : (element : DerElement) → IsDer element → IsSomeOrNone name element
name_or_not element der =
    branch_or_not 0x30 (λ sets. row (map relative_distinguished_name sets)) (each_or_not relative_distinguished_name set_or_not) element der

-- ---- names of other forms

-- the element is written for none of the values
abbrev IsNone : {X : Type 0} → (X → DerElement) → DerElement → Type 0
IsNone {X} written element = (value : X) → element ≡ written value → ⊥

explicit_or_not : {X : Type 0} (tag : ℕ) (written : X → DerElement)
    → ((element : DerElement) → IsDer element → IsSomeOrNone written element) → (element : DerElement) → IsDer element
    → IsSomeOrNone (λ (v : X). explicit tag (written v)) element
explicit_or_not {X} tag written one element der = branch_or_not tag (λ (v : X). Cons (written v) Nil) (only_or_not written one) element der

some_kept : (element : DerElement) → IsDer element → IsSomeOrNone (λ (kept : KeptElement). kept.element) element
some_kept element der = inl (record { element = element; der = der }, refl)

other_name_or_not : (element : DerElement) → IsDer element → IsSomeOrNone other_name element
other_name_or_not element der =
    in_form (λ (p : ObjectIdentifier × KeptElement). Constructed 0xA0 (Cons (object_identifier p.0) (Cons (explicit 0xA0 p.1.element) Nil))) other_name
    (λ p. record { type_id = p.0; value = p.1 }) (λ other. (other.type_id, other.value)) element (λ p. refl) (λ other. refl)
    (branch_or_not 0xA0 (λ (p : ObjectIdentifier × KeptElement). Cons (object_identifier p.0) (Cons (explicit 0xA0 p.1.element) Nil))
    (two_or_not object_identifier (λ (k : KeptElement). Cons (explicit 0xA0 k.element) Nil) oid_element_or_not
    (only_or_not (λ (k : KeptElement). explicit 0xA0 k.element) (explicit_or_not 0xA0 (λ (k : KeptElement). k.element) some_kept))) element der)

directory_string_or_not : (element : DerElement) → IsDer element → IsSomeOrNone directory_string element
directory_string_or_not (Constructed tag kids) der = inr (λ string e. absurd cc)
directory_string_or_not (Primitive tag octets) der =
    elim (string_or_not tag) [
      | inl is ↦ inl (string_at tag octets is)
      | inr none ↦ inr (λ string e. none (subst IsStringTag (sym (ap tag_of e)) (is_string_tag string)))
    ]

abbrev assigner_element : DirectoryString → DerElement
assigner_element string = explicit 0xA0 (directory_string string)

abbrev party_element : DirectoryString → DerElement
party_element string = explicit 0xA1 (directory_string string)

abbrev one_string : DirectoryString → DerElement
one_string party = Constructed 0xA5 (Cons (party_element party) Nil)

abbrev two_strings : DirectoryString × DirectoryString → DerElement
two_strings p = Constructed 0xA5 (Cons (assigner_element p.0) (Cons (party_element p.1) Nil))

party_element_or_not : (element : DerElement) → IsDer element → IsSomeOrNone party_element element
party_element_or_not element der = explicit_or_not 0xA1 directory_string directory_string_or_not element der

assigner_element_or_not : (element : DerElement) → IsDer element → IsSomeOrNone assigner_element element
assigner_element_or_not element der = explicit_or_not 0xA0 directory_string directory_string_or_not element der

one_string_or_not : (element : DerElement) → IsDer element → IsSomeOrNone one_string element
one_string_or_not element der =
    branch_or_not 0xA5 (λ (s : DirectoryString). Cons (party_element s) Nil) (only_or_not party_element party_element_or_not) element der

two_strings_or_not : (element : DerElement) → IsDer element → IsSomeOrNone two_strings element
two_strings_or_not element der =
    branch_or_not 0xA5 (λ (p : DirectoryString × DirectoryString). Cons (assigner_element p.0) (Cons (party_element p.1) Nil))
    (two_or_not assigner_element (λ (s : DirectoryString). Cons (party_element s) Nil) assigner_element_or_not (only_or_not party_element party_element_or_not))
    element der

no_party : (element : DerElement) → IsNone one_string element → IsNone two_strings element
    → (assigner : Option DirectoryString) (party : DirectoryString) → element ≡ edi_party_name (party_of assigner party) → ⊥
no_party element no_one no_two None party e = no_one party e
no_party element no_one no_two (Some assigner) party e = no_two (assigner, party) e

edi_party_name_or_not : (element : DerElement) → IsDer element → IsSomeOrNone edi_party_name element
edi_party_name_or_not element der =
    elim (one_string_or_not element der) [
      | inl fit ↦ inl (party_of None fit.0, fit.1)
      | inr no_one ↦ elim (two_strings_or_not element der) [
        | inl fit ↦ inl (party_of (Some fit.0.0) fit.0.1, fit.1)
        | inr no_two ↦ inr (λ party e. no_party element no_one no_two party.name_assigner party.party_name e)
      ]
    ]

-- ---- a general name, by its form

text_or_not : (octets : List ℕ) → IsSomeOrNone ia5_contents octets
text_or_not octets =
    elim (ia5_or_not octets) [
      | inl ascii ↦ inl (record { text = octets; ascii = ascii }, refl)
      | inr wide ↦ inr (λ text e. wide (subst IsIa5 (sym e) text.ascii))
    ]

no_name : (element : DerElement) → IsNone other_name element
    → IsNone (λ text. Primitive 0x81 (ia5_contents text)) element
    → IsNone (λ text. Primitive 0x82 (ia5_contents text)) element
    → IsNone (λ sets. explicit 0xA4 (name sets)) element
    → IsNone edi_party_name element
    → IsNone (λ text. Primitive 0x86 (ia5_contents text)) element
    → IsNone (λ address. Primitive 0x87 address) element
    → IsNone (λ id. Primitive 0x88 (identifier_contents id)) element
    → (n : RawGeneralName) → element ≡ general_name n → ⊥
no_name element a b c d f g h i (forms.OtherName other) e = a other e
no_name element a b c d f g h i (forms.Rfc822Name text) e = b text e
no_name element a b c d f g h i (forms.DnsName text) e = c text e
no_name element a b c d f g h i (forms.DirectoryName sets) e = d sets e
no_name element a b c d f g h i (forms.EdiPartyName party) e = f party e
no_name element a b c d f g h i (forms.Uri text) e = g text e
no_name element a b c d f g h i (forms.IpAddress address) e = h address e
no_name element a b c d f g h i (forms.RegisteredId id) e = i id e

general_name_or_not : (element : DerElement) → IsDer element → IsSomeOrNone general_name element
general_name_or_not element der =
    elim (other_name_or_not element der) [
      | inl fit ↦ inl (forms.OtherName fit.0, fit.1)
      | inr a ↦ elim (leaf_or_not 0x81 ia5_contents text_or_not element) [
        | inl fit ↦ inl (forms.Rfc822Name fit.0, fit.1)
        | inr b ↦ elim (leaf_or_not 0x82 ia5_contents text_or_not element) [
          | inl fit ↦ inl (forms.DnsName fit.0, fit.1)
          | inr c ↦ elim (explicit_or_not 0xA4 name name_or_not element der) [
            | inl fit ↦ inl (forms.DirectoryName fit.0, fit.1)
            | inr d ↦ elim (edi_party_name_or_not element der) [
              | inl fit ↦ inl (forms.EdiPartyName fit.0, fit.1)
              | inr f ↦ elim (leaf_or_not 0x86 ia5_contents text_or_not element) [
                | inl fit ↦ inl (forms.Uri fit.0, fit.1)
                | inr g ↦ elim (leaf_or_not 0x87 (λ (o : List ℕ). o) (λ o. inl (o, refl)) element) [
                  | inl fit ↦ inl (forms.IpAddress fit.0, fit.1)
                  | inr h ↦ elim (leaf_or_not 0x88 identifier_contents oid_or_not element) [
                    | inl fit ↦ inl (forms.RegisteredId fit.0, fit.1)
                    | inr i ↦ inr (no_name element a b c d f g h i)
                  ]
                ]
              ]
            ]
          ]
        ]
      ]
    ]

-- ---- general names

general_names_or_not : (element : DerElement) → IsDer element → IsSomeOrNone general_names element
general_names_or_not element der = branch_or_not 0x30 (λ names. row (map general_name names)) (each_or_not general_name general_name_or_not) element der

pub names_or_not : (octets : List ℕ) → IsOctets octets
    → FitsWithin AreGeneralNames octets ⊎ ((names : List RawGeneralName) → IsWithin AreGeneralNames octets names → ⊥)
names_or_not octets fits =
    elim (whole_or_not octets fits) [
      | inr none ↦ inr (λ names within. none within.element within.der within.encoded)
      | inl whole ↦ elim (general_names_or_not whole.0 whole.1) [
        | inl fit ↦ inl (fit.0, record { element = whole.0; der = whole.1; encoded = whole.2; spelled = fit.1 })
        | inr none ↦ inr (λ names within. none names (whole_once octets whole.0 within.element whole.1 within.der whole.2 within.encoded ∙ within.spelled))
      ]
    ]
