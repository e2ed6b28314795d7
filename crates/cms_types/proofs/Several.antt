-- Values that are written and stored raw, one after another.
use Rattle.std.proofs.Common.{◌≡◌, List, [], ◌∷◌, ◌++◌, map, Option, Some, None, refl, sym, ap, subst, ◌∙◌, append_assoc, append-nil}
use Rattle.std.proofs.lemmas.List.{map-append}
use Rattle.std.proofs.lemmas.Grind.{flat_map-append}
use Rattle.der_core.specs.DerElement.{DerElement}
use Rattle.der_core.specs.Encoding.{IsDer}
use Rattle.der_core.specs.Owned.{KeptElement}
use Rattle.der_core.specs.Borrowed.{AreDer}
use Rattle.der_core.specs.Refusals.{RefusesInner}
use Rattle.der_core.specs.Writing.{RefusesToWrite}
use Rattle.der_core.specs.Facts.Grammars.{AreDer-append}
use Rattle.der_core.specs.Facts.Lists.{none_inner}
use Rattle.cms_types.specs.Optional.{inner_list}
use Rattle.der_core.specs.declared.error.DerError.{DerError}
use Rattle.der_core.proofs.Inner.{refuses_among, refuses_alone, refuses_last}
use Rattle.cms_types.specs.Members.{element_of_kept, elements_of_kept, all_inner}

-- The first values are stored, and their elements are within limits.
pub record AreKept {X : Type 0} (inner : X → List DerElement) (written : X → DerElement) (all rest : List X) (kept : List KeptElement) : Type 0 where
  pub first : List X
  pub are : all ≡ first ++ rest
  pub kept_are : elements_of_kept kept ≡ map written first
  pub bounded : AreDer (all_inner inner written first)

all_parts : {X : Type 0} (inner : X → List DerElement) (written : X → DerElement) (all first rest : List X) (value : X) → all ≡ first ++ value ∷ rest
    → all_inner inner written all ≡ all_inner inner written first ++ ((inner value ++ written value ∷ []) ++ all_inner inner written rest)
all_parts inner written all first rest value are =
    ap (all_inner inner written) are ∙ flat_map-append (λ v. inner v ++ written v ∷ []) first (value ∷ rest)

-- why one of the values isn't stored is why they aren't
pub refused_among : {X : Type 0} (inner : X → List DerElement) (written : X → DerElement) (all rest rest' : List X) (kept : List KeptElement) (value : X)
    (e : DerError) → AreKept inner written all rest kept → rest ≡ value ∷ rest'
    → RefusesInner (inner value ++ written value ∷ []) e → RefusesInner (all_inner inner written all) e
refused_among inner written all rest rest' kept value e so_far next refused =
    let first = so_far.first in
    let parts = all_parts inner written all first rest' value (so_far.are ∙ ap (λ r. first ++ r) next) in
    subst (λ i. RefusesInner i e) (sym parts)
    (refuses_among (all_inner inner written first) (inner value ++ written value ∷ []) (all_inner inner written rest') e so_far.bounded refused)

-- the element of a value is refused after its inner elements
pub not_kept : (inner : List DerElement) (element tree : DerElement) (e : DerError) → tree ≡ element → AreDer inner → RefusesToWrite tree e
    → RefusesInner (inner ++ element ∷ []) e
not_kept inner element tree e is der refused =
    refuses_last inner (element ∷ []) e der (refuses_alone element e (subst (λ t. RefusesToWrite t e) is refused))

pub bounded_with : (inner : List DerElement) (element tree : DerElement) → tree ≡ element → AreDer inner → IsDer tree → AreDer (inner ++ element ∷ [])
bounded_with inner element tree is der here = AreDer-append inner (element ∷ []) der (subst IsDer is here, tt)

-- one more is stored
pub kept_more : {X : Type 0} (inner : X → List DerElement) (written : X → DerElement) (all rest rest' : List X) (kept kept' : List KeptElement) (value : X)
    (raw : KeptElement) → AreKept inner written all rest kept → rest ≡ value ∷ rest'
    → raw.element ≡ written value → AreDer (inner value ++ written value ∷ []) → kept' ≡ kept ++ raw ∷ [] → AreKept inner written all rest' kept'
kept_more inner written all rest rest' kept kept' value raw so_far next is one pushed =
    let first = so_far.first in
    record {
      first = first ++ value ∷ [];
      are = so_far.are ∙ ap (λ r. first ++ r) next ∙ sym (append_assoc first (value ∷ []) rest');
      kept_are = ap elements_of_kept pushed ∙ map-append element_of_kept kept (raw ∷ []) ∙ ap (λ es. es ++ raw.element ∷ []) so_far.kept_are
          ∙ ap (λ e. map written first ++ e ∷ []) is ∙ sym (map-append written first (value ∷ []));
      bounded =
          subst AreDer (sym (flat_map-append (λ v. inner v ++ written v ∷ []) first (value ∷ [])
          ∙ ap (λ i. all_inner inner written first ++ i) (append-nil (inner value ++ written value ∷ []))))
          (AreDer-append (all_inner inner written first) (inner value ++ written value ∷ []) so_far.bounded one);
    }

-- if nothing is left, all are stored
pub kept_all : {X : Type 0} (inner : X → List DerElement) (written : X → DerElement) (all rest : List X) (kept : List KeptElement)
    → AreKept inner written all rest kept → rest ≡ [] → elements_of_kept kept ≡ map written all
kept_all inner written all rest kept so_far none =
    so_far.kept_are ∙ ap (map written) (sym (so_far.are ∙ ap (λ r. so_far.first ++ r) none ∙ append-nil so_far.first))

-- values without inner elements are refused as they are written
pub alone_inner : {X : Type 0} (written : X → DerElement) (values : List X) → all_inner (λ value. []) written values ≡ map written values
alone_inner written [] = refl
alone_inner written (v ∷ values) = ap (λ es. written v ∷ es) (alone_inner written values)

pub alone_refused : {X : Type 0} (written : X → DerElement) (values : List X) (e : DerError) → RefusesInner (all_inner (λ value. []) written values) e
    → RefusesInner (map written values) e
alone_refused written values e refused = subst (λ inner. RefusesInner inner e) (alone_inner written values) refused

-- ---- values without inner elements

abbrev no_inner : List DerElement
no_inner = []

none_list : {X : Type 0} (values : Option (List X)) → inner_list (λ (value : X). no_inner) values ≡ []
none_list None = refl
none_list (Some values) = none_inner values

pub none_list_refused : {X : Type 0} (values : Option (List X)) (e : DerError) → RefusesInner (inner_list (λ (value : X). no_inner) values) e
    → RefusesInner [] e
none_list_refused values e refused = subst (λ inner. RefusesInner inner e) (none_list values) refused
