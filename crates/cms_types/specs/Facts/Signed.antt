-- Signed attributes: different ones have different elements, each well formed.
use Rattle.std.proofs.Common.{◌≡◌, ◌↔◌, IsTrue, Bool, List, [], ap, subst}
use Rattle.std.specs.Prelude.{bytes_eq}
use Rattle.std.specs.Cmp.Lexicographic.{pointwise}
use Rattle.std.proofs.Props.{props}
use Rattle.std.proofs.lemmas.Slice.Eq.{bytes_eq-Decides}
use mathlib.Core.Logic.{∥∥₁_elim, ∥∥₁_prop}
use Rattle.der_core.specs.DerElement.{DerElement}
use Rattle.der_core.specs.Owned.{KeptElement}
use Rattle.der_core.specs.Structure.{IsGrammar}
use Rattle.der_core.specs.Facts.Grammars.{printed}
use Rattle.der_core.specs.Facts.Equality.{pointwise_same}
use Rattle.der_core.specs.Facts.Owned.{same_kept}
use Rattle.x509_types.specs.Attribute.{attribute_octets, AreAttributes}
use Rattle.x509_types.specs.Facts.Attributes.{attribute_lists, attributes_by_octets}
use Rattle.x509_types.specs.declared.attribute.Attribute.{Attribute}
use Rattle.cms_types.specs.SignedAttributesElement.{signed_attributes}
use Rattle.cms_types.specs.declared.signer_info.signed_attributes.SignedAttributes.{SignedAttributes}

-- the encoding determines an attribute
equal : Attribute → Attribute → Bool
equal a b = bytes_eq (attribute_octets a) (attribute_octets b)

equal_same : (a b : Attribute) → IsTrue (equal a b) ↔ (a ≡ b)
unfolding equal
equal_same a b =
    let decides = bytes_eq-Decides (attribute_octets a) (attribute_octets b) in
    (λ t. attributes_by_octets a b (decides.0 t), λ e. decides.1 (ap attribute_octets e))

test_prop : (t : Bool) → IsProp (IsTrue t)
test_prop t = hlevel props

-- an element encodes at most one list of attributes, whatever the proof
lists_once : (element : DerElement) (a b : List Attribute) → ∥ AreAttributes element a ∥₁ → ∥ AreAttributes element b ∥₁ → a ≡ b
lists_once element a b p q =
    let same = pointwise_same equal equal_same a b in
    same.0 (∥∥₁_elim p (test_prop (pointwise equal a b))
    (λ x. ∥∥₁_elim q (test_prop (pointwise equal a b)) (λ y. same.1 (attribute_lists.once element a b x y))))

abbrev signed_with : (element : KeptElement) (list : List Attribute) → ∥ AreAttributes element.element list ∥₁ → SignedAttributes
signed_with element list are = record { element = element; list = list; are = are }

same_signed : (a b : SignedAttributes) → a.element ≡ b.element → a.list ≡ b.list → a ≡ b
same_signed a b element list =
    let with_list : (h : ∥ AreAttributes a.element.element b.list ∥₁) → a ≡ signed_with a.element b.list h =
    subst (λ (l : List Attribute). (h : ∥ AreAttributes a.element.element l ∥₁) → a ≡ signed_with a.element l h) list
    (λ h. ap (signed_with a.element a.list) (∥∥₁_prop a.are h)) in
    subst (λ (k : KeptElement). (h : ∥ AreAttributes k.element b.list ∥₁) → a ≡ signed_with k b.list h) element with_list b.are

signed_once : (a b : SignedAttributes) → signed_attributes a ≡ signed_attributes b → a ≡ b
signed_once a b e =
    same_signed a b (same_kept a.element b.element e)
    (lists_once b.element.element a.list b.list (subst (λ (t : DerElement). ∥ AreAttributes t a.list ∥₁) e a.are) b.are)

pub all_signed_attributes : IsGrammar (λ element value. element ≡ signed_attributes value) signed_attributes (λ value. [])
all_signed_attributes = printed signed_attributes signed_once (λ value. value.element.der.formed)
