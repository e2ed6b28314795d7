-- Grammars of structures with one encoding a value, and of lists.
use Rattle.std.specs.Prelude.{◌≡◌, ℕ, List, [], ◌∷◌, ◌++◌, map, flat_map, refl}
use Rattle.std.proofs.Common.{sym, ◌∙◌, ap, subst, arith}
use Rattle.der_core.specs.DerElement.{DerElement, Constructed, row, listed}
use Rattle.der_core.specs.Facts.Rows.{listed-row}
use Rattle.der_core.specs.Encoding.{IsTag, IsWellFormed, AreWellFormed, form_bit}
use Rattle.der_core.specs.Borrowed.{AreDer}
use Rattle.der_core.specs.Elements.{sequence}
use Rattle.der_core.specs.Each.{AreEach, IsListOf, list_element}
use Rattle.der_core.specs.Structure.{IsGrammar}

-- An element encodes a value if it is the one that is written for it, and different values have
-- different elements.
pub printed : {X : Type 0} (written : X → DerElement) → ((a b : X) → written a ≡ written b → a ≡ b) → ((value : X) → IsWellFormed (written value))
    → IsGrammar (λ element value. element ≡ written value) written (λ value. [])
printed written one formed = record {
  once = λ element a b p q. one a b (sym p ∙ q);
  bounded = λ element value p. tt;
  spelled = λ value h. refl;
  formed = formed;
}

pub AreDer-append : (a b : List DerElement) → AreDer a → AreDer b → AreDer (a ++ b)
AreDer-append [] b der der' = der'
AreDer-append (x ∷ a) b der der' = (der.0, AreDer-append a b der.1 der')

pub AreDer-front : (a b : List DerElement) → AreDer (a ++ b) → AreDer a
AreDer-front [] b der = tt
AreDer-front (x ∷ a) b der = (der.0, AreDer-front a b der.1)

pub AreDer-back : (a b : List DerElement) → AreDer (a ++ b) → AreDer b
AreDer-back [] b der = der
AreDer-back (x ∷ a) b der = AreDer-back a b der.1

each_once : {X : Type 0} (spells : DerElement → X → Type 0) → ((element : DerElement) (a b : X) → spells element a → spells element b → a ≡ b)
    → (elements : List DerElement) (xs ys : List X) → AreEach spells elements xs → AreEach spells elements ys → xs ≡ ys
each_once spells once [] [] [] p q = refl
each_once spells once [] (x ∷ xs) ys p q = absurd p
each_once spells once [] [] (y ∷ ys) p q = absurd q
each_once spells once (e ∷ es) [] ys p q = absurd p
each_once spells once (e ∷ es) (x ∷ xs) [] p q = absurd q
each_once spells once (e ∷ es) (x ∷ xs) (y ∷ ys) p q =
    ap (λ v. v ∷ xs) (once e x y p.0 q.0) ∙ ap (λ vs. y ∷ vs) (each_once spells once es xs ys p.1 q.1)

each_bounded : {X : Type 0} (spells : DerElement → X → Type 0) (inner : X → List DerElement)
    → ((element : DerElement) (value : X) → spells element value → AreDer (inner value))
    → (elements : List DerElement) (values : List X) → AreEach spells elements values → AreDer (flat_map inner values)
each_bounded spells inner bounded [] [] each = tt
each_bounded spells inner bounded [] (v ∷ values) each = absurd each
each_bounded spells inner bounded (e ∷ elements) [] each = tt
each_bounded spells inner bounded (e ∷ elements) (v ∷ values) each =
    AreDer-append (inner v) (flat_map inner values) (bounded e v each.0) (each_bounded spells inner bounded elements values each.1)

each_spelled : {X : Type 0} (spells : DerElement → X → Type 0) (written : X → DerElement) (inner : X → List DerElement)
    → ((value : X) → AreDer (inner value) → spells (written value) value)
    → (values : List X) → AreDer (flat_map inner values) → AreEach spells (map written values) values
each_spelled spells written inner spelled [] der = tt
each_spelled spells written inner spelled (v ∷ values) der = (
  spelled v (AreDer-front (inner v) (flat_map inner values) der),
  each_spelled spells written inner spelled values (AreDer-back (inner v) (flat_map inner values) der),
)

pub each_formed : {X : Type 0} (written : X → DerElement) → ((value : X) → IsWellFormed (written value)) → (values : List X)
    → AreWellFormed (row (map written values))
each_formed written formed [] = tt
each_formed written formed (v ∷ values) = (formed v, each_formed written formed values)

pub set_formed : {X : Type 0} (written : X → DerElement) → ((value : X) → IsWellFormed (written value)) → (values : List X)
    → IsWellFormed (list_element 0x31 written values)
set_formed written formed values = ((omega arith, omega arith, omega arith), refl, each_formed written formed values)

same_list : (t : DerElement) (tag : ℕ) (kids kids' : List DerElement) → t ≡ Constructed tag (row kids) → t ≡ Constructed tag (row kids') → kids ≡ kids'
same_list t tag kids kids' is is' =
    let same : row kids ≡ row kids' = cc in
    sym (listed-row kids) ∙ ap listed same ∙ listed-row kids'

each_printed : {X : Type 0} (written : X → DerElement) → ((a b : X) → written a ≡ written b → a ≡ b) → (xs ys : List X)
    → map written xs ≡ map written ys → xs ≡ ys
each_printed written one [] [] e = refl
each_printed written one [] (y ∷ ys) e = absurd cc
each_printed written one (x ∷ xs) [] e = absurd cc
each_printed written one (x ∷ xs) (y ∷ ys) e =
    let first : written x ≡ written y = cc in
    let others : map written xs ≡ map written ys = cc in
    ap (λ v. v ∷ xs) (one x y first) ∙ ap (λ vs. y ∷ vs) (each_printed written one xs ys others)

-- The grammar of a list under a tag is that of its values.
pub lists : {X : Type 0} (tag : ℕ) (spells : DerElement → X → Type 0) (written : X → DerElement) (inner : X → List DerElement) → IsTag tag → form_bit tag ≡ 1
    → IsGrammar spells written inner
    → IsGrammar (IsListOf tag spells) (list_element tag written) (flat_map inner)
lists tag spells written inner is_tag constructed grammar = record {
  once = λ element a b p q. each_once spells grammar.once p.kids a b p.each
      (subst (λ ks. AreEach spells ks b) (same_list element tag q.kids p.kids q.holds p.holds) q.each);
  bounded = λ element values list. each_bounded spells inner grammar.bounded list.kids values list.each;
  spelled = λ values der. record { kids = map written values; holds = refl; each = each_spelled spells written inner grammar.spelled values der };
  formed = λ values. (is_tag, constructed, each_formed written grammar.formed values);
}

-- a list is determined by what is written for its values
pub list_once : {X : Type 0} (tag : ℕ) (written : X → DerElement) → ((a b : X) → written a ≡ written b → a ≡ b) → (xs ys : List X)
    → list_element tag written xs ≡ list_element tag written ys → xs ≡ ys
list_once tag written one xs ys e = each_printed written one xs ys (same_list (list_element tag written xs) tag (map written xs) (map written ys) refl e)

-- The grammar of a list of values with one encoding each.
pub printed_lists : {X : Type 0} (tag : ℕ) (written : X → DerElement) → IsTag tag → form_bit tag ≡ 1 → ((a b : X) → written a ≡ written b → a ≡ b)
    → ((value : X) → IsWellFormed (written value))
    → IsGrammar (λ element values. element ≡ list_element tag written values) (list_element tag written) (λ values. [])
printed_lists tag written is_tag constructed one formed =
    printed (list_element tag written) (list_once tag written one) (λ values. (is_tag, constructed, each_formed written formed values))

-- sequences are the same only if their kids are
pub same_fields : (kids kids' : List DerElement) → sequence kids ≡ sequence kids' → kids ≡ kids'
same_fields kids kids' e = same_list (sequence kids) 0x30 kids kids' refl e

-- SEQUENCE OF (X.690 8.10)
pub sequences : {X : Type 0} (spells : DerElement → X → Type 0) (written : X → DerElement) (inner : X → List DerElement) → IsGrammar spells written inner
    → IsGrammar (IsListOf 0x30 spells) (list_element 0x30 written) (flat_map inner)
sequences spells written inner grammar = lists 0x30 spells written inner (omega arith, omega arith, omega arith) refl grammar
