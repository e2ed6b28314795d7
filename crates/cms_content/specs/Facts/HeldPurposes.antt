-- Extended key usages in strings: different ones have different elements, each well formed.
use Rattle.std.proofs.Common.{◌≡◌, ◌↔◌, IsTrue, Bool, ℕ, List, [], refl, ap, sym, subst, ◌∙◌, arith}
use Rattle.std.specs.Prelude.{bytes_eq, flat_map}
use Rattle.std.specs.Cmp.Lexicographic.{pointwise}
use Rattle.std.proofs.Props.{props}
use Rattle.std.proofs.lemmas.Slice.Eq.{bytes_eq-Decides}
use mathlib.Core.Logic.{∥∥₁_elim, ∥∥₁_prop}
use Rattle.der_core.specs.DerElement.{DerElement}
use Rattle.der_core.specs.Each.{list_element}
use Rattle.der_core.specs.Structure.{IsGrammar}
use Rattle.der_core.specs.Facts.Equality.{pointwise_same}
use Rattle.der_core.specs.Facts.Grammars.{printed, lists}
use Rattle.der_core.specs.Facts.Owned.{same_encoded}
use Rattle.asn1_types.specs.Elements.{object_identifier}
use Rattle.asn1_types.specs.Facts.Elements.{identifiers, same_oid}
use Rattle.asn1_types.specs.Values.{identifier_contents}
use Rattle.asn1_types.specs.declared.oid.ObjectIdentifier.{ObjectIdentifier}
use Rattle.cms_content.specs.HeldPurposes.{IsPurposeElement, ArePurposes, ArePurposesIn}
use Rattle.cms_content.specs.HeldPurposesElement.{held_purposes}
use Rattle.cms_content.specs.declared.held_purposes.HeldPurposes.{HeldPurposes}

pub purpose_lists : IsGrammar ArePurposes (list_element 0x30 object_identifier) (flat_map (λ (id : ObjectIdentifier). []))
purpose_lists = lists 0x30 IsPurposeElement object_identifier (λ (id : ObjectIdentifier). []) (omega arith, omega arith, omega arith) refl identifiers

-- the contents octets determine an OID
equal : ObjectIdentifier → ObjectIdentifier → Bool
equal a b = bytes_eq (identifier_contents a) (identifier_contents b)

equal_same : (a b : ObjectIdentifier) → IsTrue (equal a b) ↔ (a ≡ b)
unfolding equal
equal_same a b =
    let decides = bytes_eq-Decides (identifier_contents a) (identifier_contents b) in
    (λ t. same_oid a b (decides.0 t), λ e. decides.1 (ap identifier_contents e))

test_prop : (t : Bool) → IsProp (IsTrue t)
test_prop t = hlevel props

held_once : (octets : List ℕ) (a b : List ObjectIdentifier) → ArePurposesIn octets a → ArePurposesIn octets b → a ≡ b
held_once octets a b p q =
    let same = same_encoded p.element q.element p.der q.der (sym p.encoded ∙ q.encoded) in
    purpose_lists.once q.element a b (subst (λ (t : DerElement). ArePurposes t a) same p.spelled) q.spelled

-- octets encode at most one list of extended key usages, whatever the proof
lists_once : (octets : List ℕ) (a b : List ObjectIdentifier) → ∥ ArePurposesIn octets a ∥₁ → ∥ ArePurposesIn octets b ∥₁ → a ≡ b
lists_once octets a b p q =
    let same = pointwise_same equal equal_same a b in
    same.0 (∥∥₁_elim p (test_prop (pointwise equal a b)) (λ x. ∥∥₁_elim q (test_prop (pointwise equal a b)) (λ y. same.1 (held_once octets a b x y))))

abbrev held_with : (octets : List ℕ) (purposes : List ObjectIdentifier) → ∥ ArePurposesIn octets purposes ∥₁ → HeldPurposes
held_with octets purposes are = record { octets = octets; purposes = purposes; are = are }

same_held : (a b : HeldPurposes) → a.octets ≡ b.octets → a.purposes ≡ b.purposes → a ≡ b
same_held a b octets purposes =
    let with_purposes : (h : ∥ ArePurposesIn a.octets b.purposes ∥₁) → a ≡ held_with a.octets b.purposes h =
    subst (λ (l : List ObjectIdentifier). (h : ∥ ArePurposesIn a.octets l ∥₁) → a ≡ held_with a.octets l h) purposes
    (λ h. ap (held_with a.octets a.purposes) (∥∥₁_prop a.are h)) in
    subst (λ (o : List ℕ). (h : ∥ ArePurposesIn o b.purposes ∥₁) → a ≡ held_with o b.purposes h) octets with_purposes b.are

held_by_octets : (a b : HeldPurposes) → a.octets ≡ b.octets → a ≡ b
held_by_octets a b e =
    same_held a b e (lists_once b.octets a.purposes b.purposes (subst (λ (o : List ℕ). ∥ ArePurposesIn o a.purposes ∥₁) e a.are) b.are)

pub helds_once : (a b : HeldPurposes) → held_purposes a ≡ held_purposes b → a ≡ b
helds_once a b e = let octets : a.octets ≡ b.octets = cc in held_by_octets a b octets

pub all_held_purposes : IsGrammar (λ element value. element ≡ held_purposes value) held_purposes (λ value. [])
all_held_purposes = printed held_purposes helds_once (λ value. ((omega arith, omega arith, omega arith), refl))
