-- Different values have different elements, each well formed.
use Rattle.std.proofs.Common.{◌≡◌, ℕ, List, [], refl, ap, subst, arith}
use Rattle.std.proofs.Props.{props}
use Rattle.der_core.specs.DerElement.{DerElement, Primitive, tag_of}
use Rattle.der_core.specs.Encoding.{IsWellFormed}
use Rattle.der_core.specs.Structure.{IsGrammar}
use Rattle.der_core.specs.Facts.Grammars.{printed}
use Rattle.asn1_types.specs.ObjectIdentifier.{IsIdentifier}
use Rattle.asn1_types.specs.Integer.{IsInteger}
use Rattle.asn1_types.specs.BitString.{IsBitString}
use Rattle.asn1_types.specs.Ia5String.{IsIa5}
use Rattle.asn1_types.specs.Elements.{integer, bit_string, object_identifier, ia5_string, utc_time, generalized_time, time}
use Rattle.asn1_types.specs.Facts.OneIdentifier.{IsIdentifier-prop}
use Rattle.asn1_types.specs.Facts.Times.{utc_once, generalized_once}
use Rattle.asn1_types.specs.declared.oid.ObjectIdentifier.{ObjectIdentifier}
use Rattle.asn1_types.specs.declared.integer.IntegerAsn1.{IntegerAsn1}
use Rattle.asn1_types.specs.declared.bit_string.BitString.{BitString}
use Rattle.asn1_types.specs.declared.ia5_string.Ia5String.{Ia5String}
use Rattle.asn1_types.specs.declared.time.Time.{Time}
use Rattle.asn1_types.specs.declared.time.Time.TheVariants as forms

-- ---- values with a proof about their data are the same if their data is

abbrev oid_of : (contents : List ℕ) → IsIdentifier contents → ObjectIdentifier
oid_of contents formed = record { contents = contents; formed = formed }

pub same_oid : (a b : ObjectIdentifier) → a.contents ≡ b.contents → a ≡ b
same_oid a b e =
    subst (λ (xs : List ℕ). (h : IsIdentifier xs) → a ≡ oid_of xs h) e (λ h. ap (oid_of a.contents) (IsIdentifier-prop a.contents a.formed h)) b.formed

IsInteger-prop : (contents : List ℕ) → IsProp (IsInteger contents)
IsInteger-prop contents = hlevel props

abbrev integer_with : (contents : List ℕ) → IsInteger contents → IntegerAsn1
integer_with contents formed = record { contents = contents; formed = formed }

pub same_integer : (a b : IntegerAsn1) → a.contents ≡ b.contents → a ≡ b
same_integer a b e =
    subst (λ (xs : List ℕ). (h : IsInteger xs) → a ≡ integer_with xs h) e (λ h. ap (integer_with a.contents) (IsInteger-prop a.contents a.formed h)) b.formed

IsIa5-prop : (text : List ℕ) → IsProp (IsIa5 text)
IsIa5-prop text = hlevel props

abbrev ia5_of : (text : List ℕ) → IsIa5 text → Ia5String
ia5_of text ascii = record { text = text; ascii = ascii }

pub same_ia5 : (a b : Ia5String) → a.text ≡ b.text → a ≡ b
same_ia5 a b e = subst (λ (xs : List ℕ). (h : IsIa5 xs) → a ≡ ia5_of xs h) e (λ h. ap (ia5_of a.text) (IsIa5-prop a.text a.ascii h)) b.ascii

IsBitString-prop : (unused : ℕ) (payload : List ℕ) → IsProp (IsBitString unused payload)
IsBitString-prop unused payload = hlevel props

abbrev bits_of : (unused : ℕ) (payload : List ℕ) → IsBitString unused payload → BitString
bits_of unused payload formed = record { unused = unused; payload = payload; formed = formed }

pub same_bits : (a b : BitString) → a.unused ≡ b.unused → a.payload ≡ b.payload → a ≡ b
same_bits a b e f =
    subst (λ (n : ℕ). (xs : List ℕ) → a.payload ≡ xs → (h : IsBitString n xs) → a ≡ bits_of n xs h) e
    (λ xs f. subst (λ (ys : List ℕ). (h : IsBitString a.unused ys) → a ≡ bits_of a.unused ys h) f
    (λ h. ap (bits_of a.unused a.payload) (IsBitString-prop a.unused a.payload a.formed h))) b.payload f b.formed

-- ---- grammars

leaf_once : (tag : ℕ) (a b : List ℕ) → Primitive tag a ≡ Primitive tag b → a ≡ b
leaf_once tag a b e = cc

pub identifiers : IsGrammar (λ element value. element ≡ object_identifier value) object_identifier (λ value. [])
identifiers = printed object_identifier (λ a b e. same_oid a b (leaf_once 0x06 _ _ e)) (λ value. ((omega arith, omega arith, omega arith), refl))

pub same_identifier : (a b : ObjectIdentifier) → object_identifier a ≡ object_identifier b → a ≡ b
same_identifier a b e = identifiers.once (object_identifier a) a b refl e

pub integers : IsGrammar (λ element value. element ≡ integer value) integer (λ value. [])
integers = printed integer (λ a b e. same_integer a b (leaf_once 0x02 _ _ e)) (λ value. ((omega arith, omega arith, omega arith), refl))

bits_once : (a b : BitString) → bit_string a ≡ bit_string b → a ≡ b
bits_once a b e = let unused : a.unused ≡ b.unused = cc in let payload : a.payload ≡ b.payload = cc in same_bits a b unused payload

pub bit_strings : IsGrammar (λ element value. element ≡ bit_string value) bit_string (λ value. [])
bit_strings = printed bit_string bits_once (λ value. ((omega arith, omega arith, omega arith), refl))

pub ia5_strings : IsGrammar (λ element value. element ≡ ia5_string value) ia5_string (λ value. [])
ia5_strings = printed ia5_string (λ a b e. same_ia5 a b (leaf_once 0x16 _ _ e)) (λ value. ((omega arith, omega arith, omega arith), refl))

pub utc_times : IsGrammar (λ element value. element ≡ utc_time value) utc_time (λ value. [])
utc_times = printed utc_time (λ a b e. utc_once a b (leaf_once 0x17 _ _ e)) (λ value. ((omega arith, omega arith, omega arith), refl))

pub generalized_times : IsGrammar (λ element value. element ≡ generalized_time value) generalized_time (λ value. [])
generalized_times = printed generalized_time (λ a b e. generalized_once a b (leaf_once 0x18 _ _ e)) (λ value. ((omega arith, omega arith, omega arith), refl))

-- ---- a time in one of its two forms

-- elements with different tags are different
pub unlike_tags : (x y : DerElement) → (tag_of x ≡ tag_of y → ⊥) → x ≡ y → ⊥
unlike_tags x y apart e = apart (ap tag_of e)

pub times_once : (a b : Time) → time a ≡ time b → a ≡ b
times_once (forms.Utc x) (forms.Utc y) e = ap forms.Utc (utc_times.once (utc_time x) x y refl e)
times_once (forms.Generalized x) (forms.Generalized y) e = ap forms.Generalized (generalized_times.once (generalized_time x) x y refl e)
times_once (forms.Utc x) (forms.Generalized y) e = absurd (unlike_tags (utc_time x) (generalized_time y) (λ t. omega (arith, t)) e)
times_once (forms.Generalized x) (forms.Utc y) e = absurd (unlike_tags (generalized_time x) (utc_time y) (λ t. omega (arith, t)) e)

pub times_formed : (a : Time) → IsWellFormed (time a)
times_formed (forms.Utc x) = utc_times.formed x
times_formed (forms.Generalized x) = generalized_times.formed x

pub times : IsGrammar (λ element value. element ≡ time value) time (λ value. [])
times = printed time times_once times_formed
