-- Lists of values with one encoding each: an element encodes them if it is the one that is written
-- for them.
use Rattle.std.proofs.Common.{◌≡◌, ◌↔◌, IsTrue, Bool, ℕ, Result, Ok, Err, MatchResult, List, [], ◌∷◌, map, flat_map, refl, sym, ap, subst, ◌∙◌}
use Rattle.std.specs.Cmp.Lexicographic.{pointwise}
use Rattle.der_core.specs.DerElement.{DerElement, Constructed, row}
use Rattle.der_core.specs.Encoding.{IsWellFormed}
use Rattle.der_core.specs.Each.{AreEach, IsListOf, IsWrittenList, list_element, Prints}
use Rattle.der_core.specs.Borrowed.{AreDer}
use Rattle.der_core.specs.Facts.Equality.{pointwise_same}
use Rattle.der_core.specs.Refusals.{RefusesShape, RefusesInner}
use Rattle.der_core.specs.declared.error.DerError.{DerError}
use Rattle.der_core.specs.declared.error.DerError.TheVariants as errors

pub each_written : {X : Type 0} (written : X → DerElement) (elements : List DerElement) (values : List X) → AreEach (Prints written) elements values
    → elements ≡ map written values
each_written written [] [] each = refl
each_written written [] (v ∷ values) each = absurd each
each_written written (e ∷ elements) [] each = absurd each
each_written written (e ∷ elements) (v ∷ values) each = ap (λ x. x ∷ elements) each.0 ∙ ap (λ xs. written v ∷ xs) (each_written written elements values each.1)

pub written_each : {X : Type 0} (written : X → DerElement) (values : List X) → AreEach (Prints written) (map written values) values
written_each written [] = tt
written_each written (v ∷ values) = (refl, written_each written values)

-- the element around them is the one that is written for the list
pub printed_list : {X : Type 0} (written : X → DerElement) (tag : ℕ) (t : DerElement) (values : List X) → IsListOf tag (Prints written) t values
    → t ≡ list_element tag written values
printed_list written tag t values list = list.holds ∙ ap (λ kids. Constructed tag (row kids)) (each_written written list.kids values list.each)

pub list_printed : {X : Type 0} (written : X → DerElement) (tag : ℕ) (t : DerElement) (values : List X) → t ≡ list_element tag written values
    → IsListOf tag (Prints written) t values
list_printed written tag t values is = record { kids = map written values; holds = is; each = written_each written values }

-- what refuses the list refuses the value around it
pub list_refused : {X Y : Type 0} (P : X → Type 0) (Q : Y → Type 0) (e : DerError) → ((y : Y) → Q y → (x : X) × P x) → RefusesShape P e → RefusesShape Q e
list_refused P Q errors.Shape f none = λ y q. let p = f y q in none p.0 p.1
list_refused P Q errors.Memory f none = tt
list_refused P Q (errors.Malformed m) f none = absurd none
list_refused P Q errors.TooDeep f none = absurd none
list_refused P Q errors.TooLong f none = absurd none

abbrev no_element : List DerElement
no_element = []

pub none_inner : {X : Type 0} (values : List X) → flat_map (λ (value : X). no_element) values ≡ []
none_inner [] = refl
none_inner (v ∷ values) = none_inner values

pub none_refused : {X : Type 0} (values : List X) (e : DerError) → RefusesInner (flat_map (λ (value : X). no_element) values) e → RefusesInner [] e
none_refused values e refused = subst (λ inner. RefusesInner inner e) (none_inner values) refused

-- a list of values with nothing wrapped in strings is written as it is
pub plain_list : {X : Type 0} (written : X → DerElement) (tag : ℕ) (values whole : List X) → values ≡ whole
    → (r : Result DerElement DerError)
    → MatchResult r (IsWrittenList tag written (λ value. no_element) values) (RefusesInner (flat_map (λ value. no_element) values))
    → MatchResult r (λ tree. (tree ≡ list_element tag written whole) × IsWellFormed tree × AreDer []) (RefusesInner [])
plain_list written tag values whole same (Ok tree) list = (list.is ∙ ap (list_element tag written) same, list.formed, tt)
plain_list written tag values whole same (Err e) refused = subst (λ inner. RefusesInner inner e) (none_inner values) refused

-- lists are equal value by value exactly if they are the same
pub lists_equal : {X : Type 0} (eq : X → X → Bool) → ((a b : X) → IsTrue (eq a b) ↔ (a ≡ b)) → (xs ys xs' ys' : List X) (t : Bool) → xs ≡ xs' → ys ≡ ys'
    → t ≡ pointwise eq xs ys → IsTrue t ↔ (xs' ≡ ys')
lists_equal eq one xs ys xs' ys' t p q test =
    let each = pointwise_same eq one xs ys in
    (λ w. sym p ∙ each.0 (sym test ∙ w) ∙ q, λ e. test ∙ each.1 (p ∙ e ∙ sym q))
