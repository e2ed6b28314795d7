-- Values in order and the elements that encode them: one more, none left, and one that encodes no
-- value.
use Rattle.std.proofs.Common.{◌≡◌, ℕ, Result, Ok, Err, MatchResult, List, [], ◌∷◌, ◌++◌, refl, sym, ◌∙◌, ap, subst, append_assoc, append-nil, map, flat_map}
use Rattle.std.proofs.lemmas.List.{map-append}
use Rattle.std.proofs.lemmas.Grind.{flat_map-append}
use Rattle.der_core.specs.DerElement.{DerElement, Constructed, row}
use Rattle.der_core.proofs.Parts.{refuses_as, same_kids}
use Rattle.der_core.specs.Each.{AreEach, AreWritten, IsListOf}
use Rattle.der_core.proofs.SoFar.{AreFirst, AreFirstWritten}
use Rattle.der_core.specs.Borrowed.{AreDer}
use Rattle.der_core.specs.Refusals.{RefusesInner, RefusesShape}
use Rattle.der_core.specs.Structure.{Fits}
use Rattle.der_core.specs.Facts.Grammars.{AreDer-append}
use Rattle.der_core.proofs.Inner.{refuses_among}
use Rattle.der_core.specs.declared.error.DerError.{DerError}

each_more : {X : Type 0} (spells : DerElement → X → Type 0) (elements : List DerElement) (values : List X) (element : DerElement) (value : X)
    → AreEach spells elements values → spells element value → AreEach spells (elements ++ element ∷ []) (values ++ value ∷ [])
each_more spells [] [] element value each one = (one, tt)
each_more spells [] (v ∷ values) element value each one = absurd each
each_more spells (e ∷ elements) [] element value each one = absurd each
each_more spells (e ∷ elements) (v ∷ values) element value each one = (each.0, each_more spells elements values element value each.1 one)

-- the value of the next element comes last
pub first_more : {X : Type 0} (spells : DerElement → X → Type 0) (all : List DerElement) (rest rest' : List DerElement) (values values' : List X)
    (element : DerElement) (value : X)
    → AreFirst spells all rest values → rest ≡ element ∷ rest' → spells element value → values' ≡ values ++ value ∷ [] → AreFirst spells all rest' values'
first_more spells all rest rest' values values' element value so_far next one pushed = record {
  first = so_far.first ++ element ∷ [];
  are = so_far.are ∙ ap (λ r. so_far.first ++ r) next ∙ sym (append_assoc so_far.first (element ∷ []) rest');
  each = subst (AreEach spells (so_far.first ++ element ∷ [])) (sym pushed) (each_more spells so_far.first values element value so_far.each one);
}

each_without : {X : Type 0} (spells : DerElement → X → Type 0) (before : List DerElement) (element : DerElement) (after : List DerElement) (values : List X)
    → AreEach spells (before ++ element ∷ after) values → ((value : X) → spells element value → ⊥) → ⊥
each_without spells [] element after [] each none = each
each_without spells [] element after (v ∷ values) each none = none v each.0
each_without spells (e ∷ before) element after [] each none = each
each_without spells (e ∷ before) element after (v ∷ values) each none = each_without spells before element after values each.1 none

-- if the next element encodes no value, all elements together encode none
pub first_without : {X : Type 0} (spells : DerElement → X → Type 0) (all rest rest' : List DerElement) (values values' : List X) (element : DerElement)
    → AreFirst spells all rest values → rest ≡ element ∷ rest' → ((value : X) → spells element value → ⊥) → AreEach spells all values' → ⊥
first_without spells all rest rest' values values' element so_far next none each =
    each_without spells so_far.first element rest' values'
    (subst (λ elements. AreEach spells elements values') (so_far.are ∙ ap (λ r. so_far.first ++ r) next) each) none

-- nothing is written yet
pub none_written : {X : Type 0} (written : X → DerElement) (inner : X → List DerElement) (all : List X) → AreFirstWritten written inner all all []
none_written written inner all = record {
  first = [];
  parts = refl;
  done = record { are = refl; bounded = tt };
}

-- the element of the next value comes last
pub written_more : {X : Type 0} (written : X → DerElement) (inner : X → List DerElement) (all rest rest' : List X) (elements elements' : List DerElement)
    (value : X) (element : DerElement)
    → AreFirstWritten written inner all rest elements → rest ≡ value ∷ rest' → element ≡ written value → AreDer (inner value)
    → elements' ≡ elements ++ element ∷ [] → AreFirstWritten written inner all rest' elements'
written_more written inner all rest rest' elements elements' value element so_far next is der pushed =
    let first = so_far.first in
    record {
      first = first ++ value ∷ [];
      parts = so_far.parts ∙ ap (λ r. first ++ r) next ∙ sym (append_assoc first (value ∷ []) rest');
      done = record {
        are = pushed ∙ ap (λ es. es ++ element ∷ []) so_far.done.are ∙ ap (λ e. map written first ++ e ∷ []) is ∙ sym (map-append written first (value ∷ []));
        bounded = subst AreDer (sym (flat_map-append inner first (value ∷ []) ∙ ap (λ i. flat_map inner first ++ i) (append-nil (inner value))))
            (AreDer-append (flat_map inner first) (inner value) so_far.done.bounded der);
      };
    }

-- what prevents the next value from being written prevents all of them
pub written_not : {X : Type 0} (written : X → DerElement) (inner : X → List DerElement) (all rest rest' : List X) (elements : List DerElement) (value : X)
    (e : DerError)
    → AreFirstWritten written inner all rest elements → rest ≡ value ∷ rest' → RefusesInner (inner value) e → RefusesInner (flat_map inner all) e
written_not written inner all rest rest' elements value e so_far next refused =
    let first = so_far.first in
    let parts : flat_map inner all ≡ flat_map inner first ++ (inner value ++ flat_map inner rest') =
    ap (flat_map inner) (so_far.parts ∙ ap (λ r. first ++ r) next) ∙ flat_map-append inner first (value ∷ rest') in
    subst (λ i. RefusesInner i e) (sym parts) (refuses_among (flat_map inner first) (inner value) (flat_map inner rest') e so_far.done.bounded refused)

-- what is read of the kids is read of the element around them
pub list_around : {X : Type 0} (spells : DerElement → X → Type 0) (t : DerElement) (tag : ℕ) (kids : List DerElement) → t ≡ Constructed tag (row kids)
    → (r : Result (List X) DerError) → MatchResult r (AreEach spells kids) (RefusesShape (AreEach spells kids))
    → MatchResult r (IsListOf tag spells t) (RefusesShape (IsListOf tag spells t))
list_around spells t tag kids holds (Ok values) each = record { kids = kids; holds = holds; each = each }
list_around spells t tag kids holds (Err e) refused =
    refuses_as (AreEach spells kids) (IsListOf tag spells t) e
    (λ none values list. none values (subst (λ ks. AreEach spells ks values) (same_kids t tag tag list.kids kids list.holds holds) list.each))
    refused

-- ---- tests of all elements

-- the elements encode values if those that are left do
pub first_fits : {X : Type 0} (spells : DerElement → X → Type 0) (all rest rest' : List DerElement) (element : DerElement)
    → (Fits (AreEach spells) rest → Fits (AreEach spells) all) → rest ≡ element ∷ rest' → Fits spells element → Fits (AreEach spells) rest'
    → Fits (AreEach spells) all
first_fits spells all rest rest' element goes_on next one more =
    goes_on (one.0 ∷ more.0, subst (λ es. AreEach spells es (one.0 ∷ more.0)) (sym next) (one.1, more.1))

rest_each' : {X : Type 0} (spells : DerElement → X → Type 0) (rest rest' : List DerElement) (element : DerElement) (values : List X)
    → rest ≡ element ∷ rest' → AreEach spells rest values → Fits spells element × Fits (AreEach spells) rest'
rest_each' spells rest rest' element [] next each = absurd (subst (λ es. AreEach spells es []) next each)
rest_each' spells rest rest' element (v ∷ values) next each = let both = subst (λ es. AreEach spells es (v ∷ values)) next each in
    ((v, both.0), (values, both.1))

pub rest_each : {X : Type 0} (spells : DerElement → X → Type 0) (rest rest' : List DerElement) (element : DerElement)
    → rest ≡ element ∷ rest' → Fits (AreEach spells) rest → Fits spells element × Fits (AreEach spells) rest'
rest_each spells rest rest' element next fits = rest_each' spells rest rest' element fits.0 next fits.1
