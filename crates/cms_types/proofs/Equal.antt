-- Comparing fields: tests that hold exactly where they are the same.
use Rattle.std.proofs.Common.{◌≡◌, ◌↔◌, IsTrue, Bool, List, [], Option, refl, sym, ap, ◌∙◌}
use Rattle.std.specs.Option.{option_eq}
use Rattle.std.specs.Cmp.Lexicographic.{pointwise}
use Rattle.der_core.specs.DerElement.{DerElement}
use Rattle.der_core.specs.Equality.{same_octets}
use Rattle.der_core.specs.Owned.{KeptElement}
use Rattle.der_core.specs.Structure.{IsGrammar}
use Rattle.der_core.specs.Facts.Owned.{same_kept}
use Rattle.der_core.specs.Facts.Equality.{by_test, octets_decide, octets_same, options_same, pointwise_same, kept_same}

-- the octets that are written for a value determine it
one_same : {X : Type 0} (written : X → DerElement) → IsGrammar (λ element value. element ≡ written value) written (λ value. []) → (a b : X)
    → IsTrue (same_octets written a b) ↔ (a ≡ b)
one_same written grammar = octets_same written (λ a b e. grammar.once (written a) a b refl e) grammar.formed

pub option_same : {X : Type 0} (written : X → DerElement) → IsGrammar (λ element value. element ≡ written value) written (λ value. [])
    → (a b : Option X) (t : Bool) → t ≡ option_eq (same_octets written) a b → IsTrue t ↔ (a ≡ b)
option_same written grammar a b t test = by_test t _ (a ≡ b) test (options_same (same_octets written) (one_same written grammar) a b)

pub list_same : {X : Type 0} (written : X → DerElement) → IsGrammar (λ element value. element ≡ written value) written (λ value. [])
    → (a b : List X) (t : Bool) → t ≡ pointwise (same_octets written) a b → IsTrue t ↔ (a ≡ b)
list_same written grammar a b t test = by_test t _ (a ≡ b) test (pointwise_same (same_octets written) (one_same written grammar) a b)

pub option_list_same : {X : Type 0} (written : X → DerElement) → IsGrammar (λ element value. element ≡ written value) written (λ value. [])
    → (a b : Option (List X)) (t : Bool) → t ≡ option_eq (pointwise (same_octets written)) a b → IsTrue t ↔ (a ≡ b)
option_list_same written grammar a b t test =
    by_test t _ (a ≡ b) test (options_same (pointwise (same_octets written)) (pointwise_same (same_octets written) (one_same written grammar)) a b)

-- raw elements
pub elements_same : (a b : List KeptElement) (t : Bool) → t ≡ pointwise (same_octets (λ (kept : KeptElement). kept.element)) a b → IsTrue t ↔ (a ≡ b)
elements_same a b t test = by_test t _ (a ≡ b) test (pointwise_same (same_octets (λ (kept : KeptElement). kept.element)) kept_same a b)

pub option_elements_same : (a b : Option (List KeptElement)) (t : Bool) → t ≡ option_eq (pointwise (same_octets (λ (kept : KeptElement). kept.element))) a b
    → IsTrue t ↔ (a ≡ b)
option_elements_same a b t test =
    by_test t _ (a ≡ b) test (options_same (pointwise (same_octets (λ (kept : KeptElement). kept.element)))
    (pointwise_same (same_octets (λ (kept : KeptElement). kept.element)) kept_same) a b)

-- a test for equality is one of the octets, and of the elements
pub by_octets : {X : Type 0} (written : X → DerElement) → IsGrammar (λ element value. element ≡ written value) written (λ value. [])
    → (a b : X) (t : Bool) → (IsTrue t ↔ (a ≡ b)) → t ≡ same_octets written a b
by_octets written grammar = octets_decide written (λ a b e. grammar.once (written a) a b refl e) grammar.formed

pub by_element : {X : Type 0} (written : X → DerElement) → IsGrammar (λ element value. element ≡ written value) written (λ value. [])
    → (a b : X) (t : Bool) → (IsTrue t ↔ (a ≡ b)) → IsTrue t ↔ (written a ≡ written b)
by_element written grammar a b t same = (λ w. ap written (same.0 w), λ e. same.1 (grammar.once (written a) a b refl e))

-- a stored element determines its value
pub by_kept : {X : Type 0} (written : X → DerElement) → IsGrammar (λ element value. element ≡ written value) written (λ value. [])
    → (a b : X) (x y : KeptElement) (t : Bool) → x.element ≡ written a → y.element ≡ written b → (IsTrue t ↔ (x ≡ y)) → IsTrue t ↔ (a ≡ b)
by_kept written grammar a b x y t p q same = (
  λ w. grammar.once (written a) a b refl (sym p ∙ ap (λ (k : KeptElement). k.element) (same.0 w) ∙ q),
  λ e. same.1 (same_kept x y (p ∙ ap written e ∙ sym q)),
)
