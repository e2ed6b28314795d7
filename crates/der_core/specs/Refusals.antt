-- Why a reader or a writer of a structure refuses.
use Rattle.std.specs.Prelude.{◌≡◌, ℕ, List, ◌∷◌, ◌++◌}
use Rattle.der_core.specs.DerElement.{DerElement}
use Rattle.der_core.specs.Causes.{NoFault, Refuses}
use Rattle.der_core.specs.Writing.{RefusesToWrite}
use Rattle.der_core.specs.Reading.{IsExactFault}
use Rattle.der_core.specs.Structure.{SpellsNone}
use Rattle.der_core.specs.Borrowed.{AreDer}
use Rattle.der_core.specs.declared.error.DerError.{DerError}
use Rattle.der_core.specs.declared.error.DerError.TheVariants as errors

-- The error reports a cause that holds: it is the error of that cause.
abbrev pub Wraps : {S E : Type 0} → (S → E) → (S → Type 0) → E → Type 0
Wraps {S} wrap Refuses e = (source : S) × (e ≡ wrap source) × Refuses source

-- The error is `Shape`, for an element that encodes no value, or out of memory.
abbrev pub RefusesShape : {X : Type 0} → (X → Type 0) → DerError → Type 0
RefusesShape {X} Is = Refuses NoFault ((value : X) → Is value → ⊥) ⊥ ⊥

-- Octets that aren't an element are refused with their fault, an element that encodes no value for
-- its shape.
abbrev pub RefusesOctets : {X : Type 0} → (DerElement → X → Type 0) → List ℕ → DerError → Type 0
RefusesOctets {X} spells octets = Refuses (IsExactFault octets) (SpellsNone spells octets) ⊥ ⊥

-- Some values are wrapped in a string as elements of their own. The first of them that can't be
-- written is why the whole can't be.
abbrev pub IsFirstUnwritable : List DerElement → DerError → Type 0
IsFirstUnwritable inner e =
    (before : List DerElement) × (element : DerElement) × (after : List DerElement)
    × (inner ≡ before ++ element ∷ after) × AreDer before × RefusesToWrite element e

-- why a value with these inner elements isn't written
abbrev pub RefusesInner : List DerElement → DerError → Type 0
RefusesInner inner =
    Refuses NoFault ⊥ (IsFirstUnwritable inner errors.TooDeep)
    (IsFirstUnwritable inner errors.TooLong)
