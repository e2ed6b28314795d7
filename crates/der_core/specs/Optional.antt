-- OPTIONAL fields: values of them, and elements at the beginning of others, recognised by their
-- tags.
use Rattle.std.specs.Prelude.{◌≡◌, ◌≢◌, ⊤, ℕ, List, [], ◌∷◌, ◌++◌, Option, Some, None}
use Rattle.der_core.specs.DerElement.{DerElement, Primitive, Constructed, tag_of, listed}
use Rattle.der_core.specs.Elements.{explicit, optional_explicit}
use Rattle.der_core.specs.Structure.{BeginsOtherwise}

-- If there is an element it encodes the value; without an element there is no value.
abbrev pub SpellsOption : {X : Type 0} → (DerElement → X → Type 0) → Option DerElement → Option X
    → Type 0
SpellsOption spells None None = ⊤
SpellsOption spells None (Some value) = ⊥
SpellsOption spells (Some element) None = ⊥
SpellsOption spells (Some element) (Some value) = spells element value

-- the elements that the value, if there is one, wraps in strings
abbrev pub inner_option : {X : Type 0} → (X → List DerElement) → Option X → List DerElement
inner_option inner None = []
inner_option inner (Some value) = inner value

-- The content of the explicit tag, or nothing, was taken off the beginning of the elements.
pub record TakesExplicit (tag : ℕ) (all : List DerElement) (inner : Option DerElement)
    (rest : List DerElement) : Type 0 where
  pub are : all ≡ optional_explicit tag inner ++ rest
  pub once : inner ≡ None → BeginsOtherwise tag rest

-- The first element has the tag, and holds no element or several.
pub record HasBadTagging (tag : ℕ) (all : List DerElement) : Type 0 where
  pub kid : DerElement
  pub rest : List DerElement
  pub are : all ≡ kid ∷ rest
  pub tagged : tag_of kid ≡ tag
  pub none : (inner : DerElement) → kid ≢ explicit tag inner

-- the elements in one that may be absent: none in a primitive one
abbrev pub members_of : Option DerElement → List DerElement
members_of None = []
members_of (Some (Primitive tag content)) = []
members_of (Some (Constructed tag members)) = listed members
