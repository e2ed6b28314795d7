-- What octets begin with, for a reader of trees.
use Rattle.std.specs.Prelude.{◌≡◌, ℕ, ◌+◌, ◌<◌, ◌≤◌, ◌⊎◌, List, ◌++◌, length, take}
use Rattle.der_core.specs.declared.error.DerError.{DerError}
use Rattle.der_core.specs.declared.fault.DerFault.{DerFault}
use Rattle.der_core.specs.declared.fault.DerFault.TheVariants.{Trailing}
use Rattle.der_core.specs.declared.fault.Malformed.{Malformed}
use Rattle.der_core.specs.Fault.{IsFirstFault}
use Rattle.der_core.specs.Causes.{Refuses}
use Rattle.der_core.specs.DerElement.{DerElement, DerElements}
use Rattle.der_core.specs.Encoding.{encoding, encodings, AreWellFormed, deepest, AreShort, IsDer}

-- elements in order, each of which is read within so many levels
pub record AreDerWithin (levels : ℕ) (elements : DerElements) : Type 0 where
  pub formed : AreWellFormed elements
  pub nested : deepest elements ≤ levels
  pub short : AreShort elements

-- Octets are elements of at most so many levels.
abbrev pub HasElementsWithin : ℕ → List ℕ → Type 0
HasElementsWithin levels octets =
    (elements : DerElements) × AreDerWithin levels elements × (octets ≡ encodings elements)

-- The first n octets are the encoding of an element that is read.
pub record IsFirst (octets : List ℕ) (element : DerElement) (n : ℕ) : Type 0 where
  pub der : IsDer element
  pub many : n ≡ length (encoding element)
  pub front : take n octets ≡ encoding element

-- No prefix of the octets is the encoding of an element that is read.
abbrev pub HasNoFirst : List ℕ → Type 0
HasNoFirst octets = (element : DerElement) (n : ℕ) → IsFirst octets element n → ⊥

-- Octets follow the first element; this is the offset of the first of them.
pub record HasTrailing (octets : List ℕ) (place : ℕ) : Type 0 where
  pub element : DerElement
  pub first : IsFirst octets element place
  pub more : place < length octets

-- What is wrong with octets that aren't one element: their first fault, or trailing octets.
abbrev pub IsExactFault : List ℕ → ℕ → DerFault → Type 0
IsExactFault octets place fault =
    IsFirstFault octets place fault ⊎ ((fault ≡ Trailing) × HasTrailing octets place)

-- No encoding is a proper prefix of another: if two encodings begin the same octets, they are of
-- one element.
abbrev pub IsPrefixFree : Type 0
IsPrefixFree =
    (a b : DerElement) (x y : List ℕ) → IsDer a → IsDer b → encoding a ++ x ≡ encoding b ++ y
    → (a ≡ b) × (x ≡ y)

-- The reported offset is `at` plus the offset of the fault in its octets.
abbrev pub IsFaultFrom : ℕ → (ℕ → DerFault → Type 0) → Malformed → Type 0
IsFaultFrom at Fault m = (k : ℕ) × (m.at ≡ at + k) × Fault k m.fault

-- The error of a reader is out of memory, or a fault at an offset.
abbrev pub RefusesMalformed : (ℕ → DerFault → Type 0) → DerError → Type 0
RefusesMalformed Fault = Refuses Fault ⊥ ⊥ ⊥
