-- Raw elements, as elements.
use Rattle.std.specs.Prelude.{List, [], ◌∷◌, ◌++◌, map, flat_map}
use Rattle.der_core.specs.DerElement.{DerElement}
use Rattle.der_core.specs.Owned.{KeptElement}

-- the element of a raw one
abbrev pub element_of_kept : KeptElement → DerElement
element_of_kept kept = kept.element

-- the elements of raw ones, in order
abbrev pub elements_of_kept : List KeptElement → List DerElement
elements_of_kept kept = map element_of_kept kept

-- the elements that are written for values, each after its inner ones
abbrev pub all_inner : {X : Type 0} → (X → List DerElement) → (X → DerElement) → List X
    → List DerElement
all_inner inner written values = flat_map (λ value. inner value ++ written value ∷ []) values
