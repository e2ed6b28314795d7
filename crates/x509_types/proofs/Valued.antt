-- The values of attributes by their kinds.
use Rattle.std.proofs.Common.{◌≡◌, ◌↔◌, IsTrue, Bool, ℕ, Result, Ok, Err, MatchResult, List, [], flat_map, refl, ap, sym, subst, ◌∙◌}
use Rattle.std.specs.Prelude.{bytes_eq}
use Rattle.std.specs.Cmp.Lexicographic.{pointwise}
use Rattle.std.proofs.lemmas.Slice.Eq.{bytes_eq-Decides}
use Rattle.der_core.specs.DerElement.{DerElement}
use Rattle.der_core.specs.Elements.{octet_string}
use Rattle.der_core.specs.Encoding.{IsWellFormed}
use Rattle.der_core.specs.Each.{IsListOf, IsWrittenList}
use Rattle.der_core.specs.Equality.{same_octets}
use Rattle.der_core.specs.Owned.{KeptElement}
use Rattle.der_core.specs.Borrowed.{AreDer}
use Rattle.der_core.specs.Refusals.{RefusesInner}
use Rattle.der_core.specs.Facts.Equality.{pointwise_same, kept_same}
use Rattle.der_core.specs.Facts.Lists.{lists_equal, plain_list}
use Rattle.der_core.specs.declared.error.DerError.{DerError}
use Rattle.asn1_types.specs.Elements.{object_identifier}
use Rattle.asn1_types.specs.Facts.Elements.{same_oid}
use Rattle.asn1_types.specs.declared.oid.ObjectIdentifier.{ObjectIdentifier}
use Rattle.x509_types.specs.TbsCertificate.{IsExtensions, extensions, inner_extensions}
use Rattle.x509_types.specs.AttributeValues.{kind_of_values, attribute_values, AreAttributeValues, AreValuesOf, inner_values}
use Rattle.x509_types.specs.declared.attribute.kind.AttributeKind.{AttributeKind}
use Rattle.x509_types.specs.declared.attribute.kind.AttributeKind.TheVariants as kinds
use Rattle.x509_types.specs.declared.attribute.values.AttributeValues.{AttributeValues}
use Rattle.x509_types.specs.declared.attribute.values.AttributeValues.TheVariants as values
use Rattle.x509_types.specs.declared.extension.Extension.{Extension}
use Rattle.x509_types.proofs.Same.{equal, equal_same}

-- ---- values of a kind are a list of the kind's own

abbrev Held : AttributeKind → DerElement → Type 0
Held kinds.ContentType element =
    (types : List ObjectIdentifier) × IsListOf 0x31 (λ (kid : DerElement) (id : ObjectIdentifier). kid ≡ object_identifier id) element types
Held kinds.MessageDigest element = (digests : List (List ℕ)) × IsListOf 0x31 (λ (kid : DerElement) (digest : List ℕ). kid ≡ octet_string digest) element digests
Held kinds.ExtensionRequest element = (requests : List (List Extension)) × IsListOf 0x31 IsExtensions element requests
Held kinds.Other element = (kept : List KeptElement) × IsListOf 0x31 (λ (kid : DerElement) (k : KeptElement). kid ≡ k.element) element kept

held : (element : DerElement) (vs : AttributeValues) → AreAttributeValues element vs → Held (kind_of_values vs) element
held element (values.ContentType x) are = (x, are)
held element (values.MessageDigest x) are = (x, are)
held element (values.Extensions x) are = (x, are)
held element (values.Raw x) are = (x, are)

held_of : (kind named : AttributeKind) (element : DerElement) (vs : AttributeValues) → kind ≡ named → AreValuesOf kind element vs → Held named element
held_of kind named element vs is of = subst (λ (k : AttributeKind). Held k element) (of.0 ∙ is) (held element vs of.1)

pub types_of : (kind : AttributeKind) (element : DerElement) (vs : AttributeValues) → kind ≡ kinds.ContentType → AreValuesOf kind element vs
    → (types : List ObjectIdentifier) × IsListOf 0x31 (λ (kid : DerElement) (id : ObjectIdentifier). kid ≡ object_identifier id) element types
types_of kind element vs is of = held_of kind kinds.ContentType element vs is of

pub digests_of : (kind : AttributeKind) (element : DerElement) (vs : AttributeValues) → kind ≡ kinds.MessageDigest → AreValuesOf kind element vs
    → (digests : List (List ℕ)) × IsListOf 0x31 (λ (kid : DerElement) (digest : List ℕ). kid ≡ octet_string digest) element digests
digests_of kind element vs is of = held_of kind kinds.MessageDigest element vs is of

pub requests_of : (kind : AttributeKind) (element : DerElement) (vs : AttributeValues) → kind ≡ kinds.ExtensionRequest → AreValuesOf kind element vs
    → (requests : List (List Extension)) × IsListOf 0x31 IsExtensions element requests
requests_of kind element vs is of = held_of kind kinds.ExtensionRequest element vs is of

pub kept_of : (kind : AttributeKind) (element : DerElement) (vs : AttributeValues) → kind ≡ kinds.Other → AreValuesOf kind element vs
    → (kept : List KeptElement) × IsListOf 0x31 (λ (kid : DerElement) (k : KeptElement). kid ≡ k.element) element kept
kept_of kind element vs is of = held_of kind kinds.Other element vs is of

-- ---- what is written for a list is written for the values

abbrev Writes : Result DerElement DerError → AttributeValues → Type 0
Writes r vs = MatchResult r (λ tree. (tree ≡ attribute_values vs) × IsWellFormed tree × AreDer (inner_values vs)) (RefusesInner (inner_values vs))

pub types_written : (vs : AttributeValues) (types : List ObjectIdentifier) (r : Result DerElement DerError) → vs ≡ values.ContentType types
    → MatchResult r (IsWrittenList 0x31 object_identifier (λ id. []) types) (RefusesInner (flat_map (λ id. []) types)) → Writes r vs
types_written vs types r is list = subst (λ (v : AttributeValues). Writes r v) (sym is) (plain_list object_identifier 0x31 types types refl r list)

pub digests_written : (vs : AttributeValues) (digests : List (List ℕ)) (r : Result DerElement DerError) → vs ≡ values.MessageDigest digests
    → MatchResult r (IsWrittenList 0x31 octet_string (λ digest. []) digests) (RefusesInner (flat_map (λ digest. []) digests)) → Writes r vs
digests_written vs digests r is list = subst (λ (v : AttributeValues). Writes r v) (sym is) (plain_list octet_string 0x31 digests digests refl r list)

requests_set : (requests : List (List Extension)) (r : Result DerElement DerError)
    → MatchResult r (IsWrittenList 0x31 extensions inner_extensions requests) (RefusesInner (flat_map inner_extensions requests))
    → Writes r (values.Extensions requests)
requests_set requests (Ok tree) list = (list.is, list.formed, list.bounded)
requests_set requests (Err e) refused = refused

pub requests_written : (vs : AttributeValues) (requests : List (List Extension)) (r : Result DerElement DerError) → vs ≡ values.Extensions requests
    → MatchResult r (IsWrittenList 0x31 extensions inner_extensions requests) (RefusesInner (flat_map inner_extensions requests)) → Writes r vs
requests_written vs requests r is list = subst (λ (v : AttributeValues). Writes r v) (sym is) (requests_set requests r list)

pub kept_written : (vs : AttributeValues) (kept : List KeptElement) (r : Result DerElement DerError) → vs ≡ values.Raw kept
    → MatchResult r (IsWrittenList 0x31 (λ (k : KeptElement). k.element) (λ k. []) kept) (RefusesInner (flat_map (λ k. []) kept)) → Writes r vs
kept_written vs kept r is list = subst (λ (v : AttributeValues). Writes r v) (sym is) (plain_list (λ (k : KeptElement). k.element) 0x31 kept kept refl r list)

-- ---- lists are compared value by value

abbrev same_contents : ObjectIdentifier → ObjectIdentifier → Bool
same_contents a b = bytes_eq a.contents b.contents

one_id : (a b : ObjectIdentifier) → IsTrue (same_contents a b) ↔ (a ≡ b)
one_id a b =
    let decides = bytes_eq-Decides a.contents b.contents in
    (λ t. same_oid a b (decides.0 t), λ e. decides.1 (ap (λ (i : ObjectIdentifier). i.contents) e))

pub same_types : (a b : List ObjectIdentifier) (t : Bool) → t ≡ pointwise same_contents a b → IsTrue t ↔ (a ≡ b)
same_types a b t test = lists_equal same_contents one_id a b a b t refl refl test

pub same_digests : (a b : List (List ℕ)) (t : Bool) → t ≡ pointwise bytes_eq a b → IsTrue t ↔ (a ≡ b)
same_digests a b t test = lists_equal bytes_eq (λ (x y : List ℕ). bytes_eq-Decides x y) a b a b t refl refl test

pub same_requests : (a b : List (List Extension)) (t : Bool) → t ≡ pointwise (pointwise equal) a b → IsTrue t ↔ (a ≡ b)
same_requests a b t test = lists_equal (pointwise equal) (pointwise_same equal equal_same) a b a b t refl refl test

pub same_kept_values : (a b : List KeptElement) (t : Bool) → t ≡ pointwise (same_octets (λ (k : KeptElement). k.element)) a b → IsTrue t ↔ (a ≡ b)
same_kept_values a b t test = lists_equal (same_octets (λ (k : KeptElement). k.element)) kept_same a b a b t refl refl test
