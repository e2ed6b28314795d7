-- Values of attributes: an element encodes at most one list of a kind, and what is written for one
-- encodes it.
use Rattle.std.proofs.Common.{◌≡◌, ℕ, List, [], ◌∷◌, ◌++◌, flat_map, refl, ap, arith}
use Rattle.der_core.specs.DerElement.{DerElement}
use Rattle.der_core.specs.Elements.{octet_string}
use Rattle.der_core.specs.Encoding.{encoding, IsWellFormed}
use Rattle.der_core.specs.Each.{IsListOf, list_element, Prints}
use Rattle.der_core.specs.Owned.{KeptElement}
use Rattle.der_core.specs.Borrowed.{AreDer}
use Rattle.der_core.specs.Structure.{IsGrammar}
use Rattle.der_core.specs.Facts.Fronts.{formed_encoding_once}
use Rattle.der_core.specs.Facts.Grammars.{printed, lists, list_once}
use Rattle.der_core.specs.Facts.Owned.{same_kept}
use Rattle.der_core.specs.Facts.Lists.{list_printed}
use Rattle.der_core.specs.Facts.OctetStrings.{octet_strings}
use Rattle.asn1_types.specs.Elements.{object_identifier}
use Rattle.asn1_types.specs.Facts.Elements.{identifiers, same_identifier}
use Rattle.asn1_types.specs.declared.oid.ObjectIdentifier.{ObjectIdentifier}
use Rattle.x509_types.specs.TbsCertificate.{IsExtensions, extensions, inner_extensions}
use Rattle.x509_types.specs.AttributeKind.{attribute_number}
use Rattle.x509_types.specs.AttributeValues.{kind_of_values, attribute_values, AreAttributeValues, inner_values, asked_kinds, values_octets}
use Rattle.x509_types.specs.Facts.AttributeKinds.{attribute_kinds_by_number}
use Rattle.x509_types.specs.Facts.TbsCertificates.{extension_lists}
use Rattle.x509_types.specs.Facts.DeterminedExtensions.{AreSmall, split_before}
use Rattle.x509_types.specs.Facts.DeterminedRequests.{requests_determined, small_requests}
use Rattle.x509_types.specs.declared.attribute.values.AttributeValues.{AttributeValues}
use Rattle.x509_types.specs.declared.attribute.values.AttributeValues.TheVariants as values

-- ---- a SET OF each kind

abbrev no_element : List DerElement
no_element = []

-- SET OF (X.690 8.12)
sets : {X : Type 0} (spells : DerElement → X → Type 0) (written : X → DerElement) (inner : X → List DerElement) → IsGrammar spells written inner
    → IsGrammar (IsListOf 0x31 spells) (list_element 0x31 written) (flat_map inner)
sets spells written inner grammar = lists 0x31 spells written inner (omega arith, omega arith, omega arith) refl grammar

abbrev kept_element : KeptElement → DerElement
kept_element k = k.element

kept_elements : IsGrammar (λ element k. element ≡ kept_element k) kept_element (λ k. [])
kept_elements = printed kept_element same_kept (λ k. k.der.formed)

type_sets : IsGrammar (IsListOf 0x31 (Prints object_identifier)) (list_element 0x31 object_identifier) (flat_map (λ (id : ObjectIdentifier). no_element))
type_sets = sets (Prints object_identifier) object_identifier (λ id. no_element) identifiers

digest_sets : IsGrammar (IsListOf 0x31 (Prints octet_string)) (list_element 0x31 octet_string) (flat_map (λ (digest : List ℕ). no_element))
digest_sets = sets (Prints octet_string) octet_string (λ digest. no_element) octet_strings

request_sets : IsGrammar (IsListOf 0x31 IsExtensions) (list_element 0x31 extensions) (flat_map inner_extensions)
request_sets = sets IsExtensions extensions inner_extensions extension_lists

kept_sets : IsGrammar (IsListOf 0x31 (Prints kept_element)) (list_element 0x31 kept_element) (flat_map (λ (k : KeptElement). no_element))
kept_sets = sets (Prints kept_element) kept_element (λ k. no_element) kept_elements

-- ---- values of one kind

pub values_once : (element : DerElement) (a b : AttributeValues) → kind_of_values a ≡ kind_of_values b → AreAttributeValues element a
    → AreAttributeValues element b → a ≡ b
values_once element (values.ContentType x) (values.ContentType y) kind p q = ap values.ContentType (type_sets.once element x y p q)
values_once element (values.MessageDigest x) (values.MessageDigest y) kind p q = ap values.MessageDigest (digest_sets.once element x y p q)
values_once element (values.Extensions x) (values.Extensions y) kind p q = ap values.Extensions (request_sets.once element x y p q)
values_once element (values.Raw x) (values.Raw y) kind p q = ap values.Raw (kept_sets.once element x y p q)
values_once element a b kind p q = absurd cc

pub values_bounded : (element : DerElement) (vs : AttributeValues) → AreAttributeValues element vs → AreDer (inner_values vs)
values_bounded element (values.ContentType x) p = tt
values_bounded element (values.MessageDigest x) p = tt
values_bounded element (values.Extensions x) p = request_sets.bounded element x p
values_bounded element (values.Raw x) p = tt

pub values_spelled : (vs : AttributeValues) → AreDer (inner_values vs) → AreAttributeValues (attribute_values vs) vs
values_spelled (values.ContentType x) der = list_printed object_identifier 0x31 (list_element 0x31 object_identifier x) x refl
values_spelled (values.MessageDigest x) der = list_printed octet_string 0x31 (list_element 0x31 octet_string x) x refl
values_spelled (values.Extensions x) der = request_sets.spelled x der
values_spelled (values.Raw x) der = list_printed kept_element 0x31 (list_element 0x31 kept_element x) x refl

pub values_formed : (vs : AttributeValues) → IsWellFormed (attribute_values vs)
values_formed (values.ContentType x) = type_sets.formed x
values_formed (values.MessageDigest x) = digest_sets.formed x
values_formed (values.Extensions x) = request_sets.formed x
values_formed (values.Raw x) = kept_sets.formed x

-- ---- values by what is written for them

same_digest : (a b : List ℕ) → octet_string a ≡ octet_string b → a ≡ b
same_digest a b e = cc

pub values_determined : (a b : AttributeValues) → kind_of_values a ≡ kind_of_values b → asked_kinds a ≡ asked_kinds b
    → attribute_values a ≡ attribute_values b → a ≡ b
values_determined (values.ContentType x) (values.ContentType y) kind asked e = ap values.ContentType (list_once 0x31 object_identifier same_identifier x y e)
values_determined (values.MessageDigest x) (values.MessageDigest y) kind asked e = ap values.MessageDigest (list_once 0x31 octet_string same_digest x y e)
values_determined (values.Extensions x) (values.Extensions y) kind asked e = ap values.Extensions (requests_determined x y asked e)
values_determined (values.Raw x) (values.Raw y) kind asked e = ap values.Raw (list_once 0x31 kept_element same_kept x y e)
values_determined a b kind asked e = absurd cc

pub small_asked : (vs : AttributeValues) → AreSmall (asked_kinds vs)
small_asked (values.ContentType x) = tt
small_asked (values.MessageDigest x) = tt
small_asked (values.Extensions x) = small_requests x
small_asked (values.Raw x) = tt

begins : (vs : AttributeValues) → (rest : List ℕ) × (encoding (attribute_values vs) ≡ 0x31 ∷ rest)
begins (values.ContentType x) = (_, refl)
begins (values.MessageDigest x) = (_, refl)
begins (values.Extensions x) = (_, refl)
begins (values.Raw x) = (_, refl)

pub values_by_octets : (a b : AttributeValues) → values_octets a ≡ values_octets b → a ≡ b
values_by_octets a b e =
    let numbers : attribute_number (kind_of_values a) ≡ attribute_number (kind_of_values b) = cc in
    let others : asked_kinds a ++ encoding (attribute_values a) ≡ asked_kinds b ++ encoding (attribute_values b) = cc in
    let parts = split_before 0x31 (omega arith) (asked_kinds a) (asked_kinds b) (encoding (attribute_values a)) (encoding (attribute_values b)) (begins a).0
    (begins b).0 (begins a).1 (begins b).1 (small_asked a) (small_asked b) others in
    values_determined a b (attribute_kinds_by_number (kind_of_values a) (kind_of_values b) numbers) parts.0
    (formed_encoding_once (attribute_values a) (attribute_values b) (values_formed a) (values_formed b) parts.1)
