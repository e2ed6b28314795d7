-- Values of one structure in order, and the elements that encode them.
use Rattle.std.specs.Prelude.{◌≡◌, ⊤, ℕ, List, [], ◌∷◌, map, flat_map}
use Rattle.der_core.specs.DerElement.{DerElement, Constructed, row}
use Rattle.der_core.specs.Encoding.{IsWellFormed}
use Rattle.der_core.specs.Borrowed.{AreDer}

-- the element is the one that is written for the value
abbrev pub Prints : {X : Type 0} → (X → DerElement) → DerElement → X → Type 0
Prints written element value = element ≡ written value

-- each element encodes the value at its index, and there are as many of them
abbrev pub AreEach : {X : Type 0} → (DerElement → X → Type 0) → List DerElement → List X → Type 0
AreEach spells [] [] = ⊤
AreEach spells [] (value ∷ values) = ⊥
AreEach spells (element ∷ elements) [] = ⊥
AreEach spells (element ∷ elements) (value ∷ values) =
    spells element value × AreEach spells elements values

-- the element of this tag that holds what is written for the values, in order
abbrev pub list_element : {X : Type 0} → ℕ → (X → DerElement) → List X → DerElement
list_element tag written values = Constructed tag (row (map written values))

-- An element of this tag holds one element for each value.
pub record IsListOf {X : Type 0} (tag : ℕ) (spells : DerElement → X → Type 0) (element : DerElement)
    (values : List X) : Type 0 where
  pub kids : List DerElement
  pub holds : element ≡ Constructed tag (row kids)
  pub each : AreEach spells kids values

-- These elements are written for the values.
pub record AreWritten {X : Type 0} (written : X → DerElement) (inner : X → List DerElement)
    (values : List X) (elements : List DerElement) : Type 0 where
  pub are : elements ≡ map written values
  pub bounded : AreDer (flat_map inner values)

-- An element of this tag holds what is written for the values.
pub record IsWrittenList {X : Type 0} (tag : ℕ) (written : X → DerElement)
    (inner : X → List DerElement) (values : List X) (element : DerElement) : Type 0 where
  pub is : element ≡ list_element tag written values
  pub formed : IsWellFormed element
  pub bounded : AreDer (flat_map inner values)
