-- Values are equal if their octets are.
use Rattle.std.specs.Prelude.{◌≡◌, ◌↔◌, IsTrue, Bool, true, false, Option, Some, None, List, [], ◌∷◌, bytes_eq, refl}
use Rattle.std.proofs.Common.{ap, sym, ◌∙◌}
use Rattle.std.specs.Option.{option_eq}
use Rattle.std.specs.Cmp.Lexicographic.{pointwise, nat_list_eq_equiv}
use Rattle.std.proofs.lemmas.Slice.Eq.{bytes_eq-Decides}
use Rattle.std.proofs.lemmas.Bool.{and_parts, and_from}
use Rattle.der_core.specs.DerElement.{DerElement}
use Rattle.der_core.specs.Encoding.{encoding, IsWellFormed}
use Rattle.der_core.specs.Owned.{KeptElement}
use Rattle.der_core.specs.Facts.Fronts.{formed_encoding_once}
use Rattle.der_core.specs.Facts.Owned.{same_encoded, same_kept}
use Rattle.std.specs.Cmp.{IsPartialEquivalence, IsEquivalence, on_per, on_equiv, partial_equiv_from_equiv}
use Rattle.der_core.specs.Equality.{same_octets}

-- tests that hold in the same cases are the same
pub same_tests : {P : Type 0} (a b : Bool) → (IsTrue a ↔ P) → (IsTrue b ↔ P) → a ≡ b
same_tests true true p q = refl
same_tests true false p q = absurd (let no : IsTrue false = q.1 (p.0 refl) in cc)
same_tests false true p q = absurd (let no : IsTrue false = p.1 (q.0 refl) in cc)
same_tests false false p q = refl

pub by_test : (t u : Bool) (P : Type 0) → t ≡ u → (IsTrue u ↔ P) → IsTrue t ↔ P
by_test t u P test same = (λ w. same.0 (sym test ∙ w), λ p. test ∙ same.1 p)

-- A test that holds exactly if two values are the same is the test of their octets.
pub octets_decide : {X : Type 0} (written : X → DerElement) → ((a b : X) → written a ≡ written b → a ≡ b) → ((value : X) → IsWellFormed (written value))
    → (a b : X) (test : Bool) → (IsTrue test ↔ (a ≡ b)) → test ≡ bytes_eq (encoding (written a)) (encoding (written b))
octets_decide written one formed a b test same =
    let decides = bytes_eq-Decides (encoding (written a)) (encoding (written b)) in
    same_tests test (bytes_eq (encoding (written a)) (encoding (written b))) same (
      λ t. one a b (formed_encoding_once (written a) (written b) (formed a) (formed b) (decides.0 t)),
      λ e. decides.1 (ap (λ v. encoding (written v)) e),
    )

-- Lists are equal value by value exactly if they are the same, if the values are.
pub pointwise_same : {X : Type 0} (eq : X → X → Bool) → ((a b : X) → IsTrue (eq a b) ↔ (a ≡ b)) → (xs ys : List X) → IsTrue (pointwise eq xs ys) ↔ (xs ≡ ys)
pointwise_same eq one [] [] = (λ t. refl, λ e. refl)
pointwise_same eq one [] (y ∷ ys) = (λ t. absurd cc, λ e. absurd cc)
pointwise_same eq one (x ∷ xs) [] = (λ t. absurd cc, λ e. absurd cc)
pointwise_same eq one (x ∷ xs) (y ∷ ys) =
    let here = one x y in
    let rest = pointwise_same eq one xs ys in (
      λ t.
          let parts = and_parts (eq x y) (pointwise eq xs ys) t in
          let first = here.0 parts.0 in
          let others = rest.0 parts.1 in
          cc,
      λ e.
          let first : x ≡ y = cc in
          let others : xs ≡ ys = cc in
          and_from (eq x y) (pointwise eq xs ys) (here.1 first) (rest.1 others),
    )

-- A test of two parts, made of the same whole, is one of the whole.
pub same_whole : {X Y : Type 0} (make : X → Y) → ((a b : X) → make a ≡ make b → a ≡ b) → (s o : Y) (a b : X) (t : Bool) → s ≡ make a → o ≡ make b
    → (IsTrue t ↔ (a ≡ b)) → IsTrue t ↔ (s ≡ o)
same_whole make one s o a b t p q same = (λ w. p ∙ ap make (same.0 w) ∙ sym q, λ e. same.1 (one a b (sym p ∙ e ∙ q)))

-- a test that fails tests something false
pub unlike : {P : Type 0} → (P → ⊥) → IsTrue false ↔ P
unlike none = (λ t. absurd cc, λ p. absurd (none p))

pub options_same : {X : Type 0} (eq : X → X → Bool) → ((a b : X) → IsTrue (eq a b) ↔ (a ≡ b)) → (a b : Option X) → IsTrue (option_eq eq a b) ↔ (a ≡ b)
options_same eq one None None = (λ t. refl, λ e. refl)
options_same eq one None (Some y) = unlike (λ e. absurd cc)
options_same eq one (Some x) None = unlike (λ e. absurd cc)
options_same eq one (Some x) (Some y) = (λ t. ap Some ((one x y).0 t), λ e. (one x y).1 cc)

-- equality by octets holds exactly of the same values
pub octets_same : {X : Type 0} (written : X → DerElement) → ((a b : X) → written a ≡ written b → a ≡ b) → ((value : X) → IsWellFormed (written value))
    → (a b : X) → IsTrue (bytes_eq (encoding (written a)) (encoding (written b))) ↔ (a ≡ b)
octets_same written one formed a b =
    let decides = bytes_eq-Decides (encoding (written a)) (encoding (written b)) in
    (λ t. one a b (formed_encoding_once (written a) (written b) (formed a) (formed b) (decides.0 t)), λ e. decides.1 (ap (λ v. encoding (written v)) e))

pub kept_same : (a b : KeptElement) → IsTrue (bytes_eq (encoding a.element) (encoding b.element)) ↔ (a ≡ b)
kept_same a b =
    let decides = bytes_eq-Decides (encoding a.element) (encoding b.element) in
    (λ t. same_kept a b (same_encoded a.element b.element a.der b.der (decides.0 t)), λ e. decides.1 (ap (λ (k : KeptElement). encoding k.element) e))

-- ---- the comparison by octets is an equivalence

-- it is symmetric and transitive
abbrev pub same_octets_per : {X : Type 0} (written : X → DerElement) → IsPartialEquivalence (same_octets written)
same_octets_per written = on_per (λ value. encoding (written value)) (partial_equiv_from_equiv nat_list_eq_equiv)

-- and reflexive
abbrev pub same_octets_equiv : {X : Type 0} (written : X → DerElement) → IsEquivalence (same_octets written)
same_octets_equiv written = on_equiv (λ value. encoding (written value)) nat_list_eq_equiv
