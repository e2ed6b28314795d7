-- General names: different values have different elements, each well formed.
use Rattle.std.proofs.Common.{◌≡◌, ℕ, List, [], Option, Some, None, refl, sym, ap, ◌∙◌, arith}
use base.Stored.{Coded}
use Rattle.der_core.specs.Facts.Codes.{stored, stored_inj}
use Rattle.der_core.specs.DerElement.{DerElement, Primitive, tag_of}
use Rattle.der_core.specs.Encoding.{IsWellFormed}
use Rattle.der_core.specs.Owned.{KeptElement}
use Rattle.der_core.specs.Structure.{IsGrammar}
use Rattle.der_core.specs.Facts.Grammars.{printed, printed_lists, list_once}
use Rattle.der_core.specs.Facts.Owned.{same_kept}
use Rattle.asn1_types.specs.Elements.{object_identifier}
use Rattle.asn1_types.specs.Facts.Elements.{identifiers, same_oid, same_ia5}
use Rattle.asn1_types.specs.Values.{ia5_contents, identifier_contents}
use Rattle.asn1_types.specs.declared.oid.ObjectIdentifier.{ObjectIdentifier}
use Rattle.asn1_types.specs.declared.ia5_string.Ia5String.{Ia5String}
use Rattle.name_types.specs.DirectoryString.{directory_string}
use Rattle.name_types.specs.Name.{name}
use Rattle.der_core.specs.Elements.{explicit}
use Rattle.name_types.specs.GeneralName.{other_name_of, other_name, edi_party_name_of, string_option}
use Rattle.name_types.specs.GeneralName.{edi_party_name, general_name, general_names, AreGeneralNames}
use Rattle.name_types.specs.Facts.Names.{directory_strings, names}
use Rattle.name_types.specs.declared.directory_string.DirectoryString.{DirectoryString}
use Rattle.name_types.specs.declared.other_name.OtherName.{OtherName}
use Rattle.name_types.specs.declared.edi_party_name.EdiPartyName.{EdiPartyName}
use Rattle.name_types.specs.declared.general_name.RawGeneralName.{RawGeneralName}
use Rattle.name_types.specs.declared.general_name.RawGeneralName.TheVariants as forms

-- ---- elements by their parts

pub explicit_once : (tag : ℕ) (x y : DerElement) → explicit tag x ≡ explicit tag y → x ≡ y
explicit_once tag x y e = cc

leaf_once : (tag : ℕ) (x y : List ℕ) → Primitive tag x ≡ Primitive tag y → x ≡ y
leaf_once tag x y e = cc

-- ---- names of other forms

abbrev other_of : ObjectIdentifier → KeptElement → OtherName
other_of type_id value = record { type_id = type_id; value = value }

same_other_name : (t t' : ObjectIdentifier) (v v' : KeptElement) → t ≡ t' → v ≡ v' → other_of t v ≡ other_of t' v'
same_other_name t t' v v' p q = ap (λ (x : ObjectIdentifier). other_of x v) p ∙ ap (other_of t') q

other_parts : (t t' v v' : DerElement) → other_name_of t v ≡ other_name_of t' v' → (t ≡ t') × (v ≡ v')
other_parts t t' v v' e = (cc, cc)

pub other_names_once : (a b : OtherName) → other_name a ≡ other_name b → a ≡ b
other_names_once a b e =
    let parts = other_parts (object_identifier a.type_id) (object_identifier b.type_id) a.value.element b.value.element e in
    same_other_name a.type_id b.type_id a.value b.value (identifiers.once (object_identifier a.type_id) a.type_id b.type_id refl parts.0)
    (same_kept a.value b.value parts.1)

other_names_formed : (a : OtherName) → IsWellFormed (other_name a)
other_names_formed a = (
  (omega arith, omega arith, omega arith),
  refl,
  (identifiers.formed a.type_id, (((omega arith, omega arith, omega arith), refl, (a.value.der.formed, tt)), tt)),
)

pub other_names : IsGrammar (λ element value. element ≡ other_name value) other_name (λ value. [])
other_names = printed other_name other_names_once other_names_formed

-- ---- parties

strings_once : (a b : DirectoryString) → directory_string a ≡ directory_string b → a ≡ b
strings_once a b e = directory_strings.once (directory_string a) a b refl e

abbrev pub party_of : Option DirectoryString → DirectoryString → EdiPartyName
party_of assigner party = record { name_assigner = assigner; party_name = party }

pub same_party : (x y : Option DirectoryString) (s t : DirectoryString) → x ≡ y → s ≡ t → party_of x s ≡ party_of y t
same_party x y s t p q = ap (λ (o : Option DirectoryString). party_of o s) p ∙ ap (party_of y) q

one_string : (s t : DerElement) → edi_party_name_of None s ≡ edi_party_name_of None t → s ≡ t
one_string s t e = cc

two_strings : (x y s t : DerElement) → edi_party_name_of (Some x) s ≡ edi_party_name_of (Some y) t → (x ≡ y) × (s ≡ t)
two_strings x y s t e = (cc, cc)

one_is_not_two : (x s t : DerElement) → edi_party_name_of None s ≡ edi_party_name_of (Some x) t → ⊥
one_is_not_two x s t e = absurd cc

parties : (x y : Option DirectoryString) (s t : DirectoryString) → edi_party_name (party_of x s) ≡ edi_party_name (party_of y t) → (x ≡ y) × (s ≡ t)
parties None None s t e = (refl, strings_once s t (one_string (directory_string s) (directory_string t) e))
parties None (Some y) s t e = absurd (one_is_not_two (directory_string y) (directory_string s) (directory_string t) e)
parties (Some x) None s t e = absurd (one_is_not_two (directory_string x) (directory_string t) (directory_string s) (sym e))
parties (Some x) (Some y) s t e =
    let strings = two_strings (directory_string x) (directory_string y) (directory_string s) (directory_string t) e in
    (ap Some (strings_once x y strings.0), strings_once s t strings.1)

pub edi_party_names_once : (a b : EdiPartyName) → edi_party_name a ≡ edi_party_name b → a ≡ b
edi_party_names_once a b e =
    let same = parties a.name_assigner b.name_assigner a.party_name b.party_name e in
    same_party a.name_assigner b.name_assigner a.party_name b.party_name same.0 same.1

explicit_party : (s : DirectoryString) → IsWellFormed (explicit 0xA1 (directory_string s))
explicit_party s = ((omega arith, omega arith, omega arith), refl, (directory_strings.formed s, tt))

explicit_assigner : (s : DirectoryString) → IsWellFormed (explicit 0xA0 (directory_string s))
explicit_assigner s = ((omega arith, omega arith, omega arith), refl, (directory_strings.formed s, tt))

parties_formed : (x : Option DirectoryString) (s : DirectoryString) → IsWellFormed (edi_party_name (party_of x s))
parties_formed None s = ((omega arith, omega arith, omega arith), refl, (explicit_party s, tt))
parties_formed (Some x) s = ((omega arith, omega arith, omega arith), refl, (explicit_assigner x, (explicit_party s, tt)))

pub edi_party_names : IsGrammar (λ element value. element ≡ edi_party_name value) edi_party_name (λ value. [])
edi_party_names = printed edi_party_name edi_party_names_once (λ a. parties_formed a.name_assigner a.party_name)

-- ---- general names, by their tags

abbrev pub form_tag : RawGeneralName → ℕ
form_tag (forms.OtherName other) = 0xA0
form_tag (forms.Rfc822Name text) = 0x81
form_tag (forms.DnsName text) = 0x82
form_tag (forms.DirectoryName sets) = 0xA4
form_tag (forms.EdiPartyName party) = 0xA5
form_tag (forms.Uri text) = 0x86
form_tag (forms.IpAddress address) = 0x87
form_tag (forms.RegisteredId id) = 0x88

party_tag : (x : Option DerElement) (s : DerElement) → tag_of (edi_party_name_of x s) ≡ 0xA5
party_tag None s = refl
party_tag (Some x) s = refl

pub tag_of_form : (a : RawGeneralName) → tag_of (general_name a) ≡ form_tag a
tag_of_form (forms.OtherName other) = refl
tag_of_form (forms.Rfc822Name text) = refl
tag_of_form (forms.DnsName text) = refl
tag_of_form (forms.DirectoryName sets) = refl
tag_of_form (forms.EdiPartyName party) = party_tag (string_option party.name_assigner) (directory_string party.party_name)
tag_of_form (forms.Uri text) = refl
tag_of_form (forms.IpAddress address) = refl
tag_of_form (forms.RegisteredId id) = refl

texts_once : (tag : ℕ) (x y : Ia5String) → Primitive tag (ia5_contents x) ≡ Primitive tag (ia5_contents y) → x ≡ y
texts_once tag x y e = same_ia5 x y (leaf_once tag (ia5_contents x) (ia5_contents y) e)

of_form : (a b : RawGeneralName) → form_tag a ≡ form_tag b → general_name a ≡ general_name b → a ≡ b
of_form (forms.OtherName x) (forms.OtherName y) t e = ap forms.OtherName (other_names_once x y e)
of_form (forms.Rfc822Name x) (forms.Rfc822Name y) t e = ap forms.Rfc822Name (texts_once 0x81 x y e)
of_form (forms.DnsName x) (forms.DnsName y) t e = ap forms.DnsName (texts_once 0x82 x y e)
of_form (forms.DirectoryName x) (forms.DirectoryName y) t e = ap forms.DirectoryName (names.once (name x) x y refl (explicit_once 0xA4 (name x) (name y) e))
of_form (forms.EdiPartyName x) (forms.EdiPartyName y) t e = ap forms.EdiPartyName (edi_party_names_once x y e)
of_form (forms.Uri x) (forms.Uri y) t e = ap forms.Uri (texts_once 0x86 x y e)
of_form (forms.IpAddress x) (forms.IpAddress y) t e = ap forms.IpAddress (leaf_once 0x87 x y e)
of_form (forms.RegisteredId x) (forms.RegisteredId y) t e =
    ap forms.RegisteredId (same_oid x y (leaf_once 0x88 (identifier_contents x) (identifier_contents y) e))
of_form a b t e = absurd (omega (arith, t))

pub forms_once : (a b : RawGeneralName) → general_name a ≡ general_name b → a ≡ b
forms_once a b e = of_form a b (sym (tag_of_form a) ∙ ap tag_of e ∙ tag_of_form b) e

forms_formed : (a : RawGeneralName) → IsWellFormed (general_name a)
forms_formed (forms.OtherName x) = other_names_formed x
forms_formed (forms.Rfc822Name x) = ((omega arith, omega arith, omega arith), refl)
forms_formed (forms.DnsName x) = ((omega arith, omega arith, omega arith), refl)
forms_formed (forms.DirectoryName x) = ((omega arith, omega arith, omega arith), refl, (names.formed x, tt))
forms_formed (forms.EdiPartyName x) = parties_formed x.name_assigner x.party_name
forms_formed (forms.Uri x) = ((omega arith, omega arith, omega arith), refl)
forms_formed (forms.IpAddress x) = ((omega arith, omega arith, omega arith), refl)
forms_formed (forms.RegisteredId x) = ((omega arith, omega arith, omega arith), refl)

pub general_name_forms : IsGrammar (λ element value. element ≡ general_name value) general_name (λ value. [])
general_name_forms = printed general_name forms_once forms_formed

-- ---- lists of them

pub general_names_once : (a b : List RawGeneralName) → general_names a ≡ general_names b → a ≡ b
general_names_once = list_once 0x30 general_name forms_once

pub general_name_lists : IsGrammar AreGeneralNames general_names (λ names. [])
general_name_lists = printed_lists 0x30 general_name (omega arith, omega arith, omega arith) refl forms_once forms_formed

-- lists have codes: those of their elements
abbrev pub coded_general_names : Coded (List RawGeneralName)
coded_general_names = record {
  code = λ names. stored (general_names names);
  inj = λ a b e. general_names_once a b (stored_inj (general_names a) (general_names b) e);
}
