-- Structures: which elements encode a value, and which is written for it.
use Rattle.std.specs.Prelude.{◌≡◌, ◌≢◌, ⊤, ℕ, List, [], ◌∷◌}
use Rattle.der_core.specs.DerElement.{DerElement, tag_of}
use Rattle.der_core.specs.Encoding.{encoding, IsDer, IsWellFormed}
use Rattle.der_core.specs.Borrowed.{AreDer}

-- The element, or the elements, encode a value.
abbrev pub Fits : {E X : Type 0} → (E → X → Type 0) → E → Type 0
Fits {E} {X} spells element = (value : X) × spells element value

-- A string holds the encoding of an element, all of it, that encodes the value.
pub record IsWithin {X : Type 0} (spells : DerElement → X → Type 0) (octets : List ℕ)
    (value : X) : Type 0 where
  pub element : DerElement
  pub der : IsDer element
  pub encoded : octets ≡ encoding element
  pub spelled : spells element value

-- A string holds the encoding of an element, all of it, that encodes a value.
abbrev pub FitsWithin : {X : Type 0} → (DerElement → X → Type 0) → List ℕ → Type 0
FitsWithin {X} spells octets = (value : X) × IsWithin spells octets value

-- The octets are the encoding of an element, all of them, and it encodes no value.
pub record SpellsNone {X : Type 0} (spells : DerElement → X → Type 0)
    (octets : List ℕ) : Type 0 where
  pub element : DerElement
  pub der : IsDer element
  pub encoded : octets ≡ encoding element
  pub none : (value : X) → spells element value → ⊥

-- What the grammar of every structure must satisfy.
pub record IsGrammar {X : Type 0} (spells : DerElement → X → Type 0) (written : X → DerElement)
    (inner : X → List DerElement) : Type 0 where
  -- an element encodes at most one value
  pub once : (element : DerElement) (a b : X) → spells element a → spells element b → a ≡ b
  -- the elements wrapped in strings of an encoded value are within limits
  pub bounded : (element : DerElement) (value : X) → spells element value → AreDer (inner value)
  -- the element that is written for a value encodes it, if the elements wrapped in strings are
  -- within limits
  pub spelled : (value : X) → AreDer (inner value) → spells (written value) value
  -- and is well formed
  pub formed : (value : X) → IsWellFormed (written value)

-- the first of the elements, if there is one, has another tag
abbrev pub BeginsOtherwise : ℕ → List DerElement → Type 0
BeginsOtherwise tag [] = ⊤
BeginsOtherwise tag (kid ∷ kids) = tag_of kid ≢ tag

-- the first of the elements, if there is one, encodes no value
abbrev pub BeginsUnfit : {X : Type 0} → (DerElement → X → Type 0) → List DerElement → Type 0
BeginsUnfit spells [] = ⊤
BeginsUnfit {X} spells (kid ∷ kids) = (value : X) → spells kid value → ⊥

-- there is a first element
pub record HasMore (kids : List DerElement) : Type 0 where
  pub kid : DerElement
  pub rest : List DerElement
  pub are : kids ≡ kid ∷ rest
