-- How far a loop over elements, or over values, has come.
use Rattle.std.specs.Prelude.{◌≡◌, List, ◌++◌}
use Rattle.der_core.specs.DerElement.{DerElement}
use Rattle.der_core.specs.Each.{AreEach, AreWritten}

-- Of all these elements the first ones have these values, and the rest are still to be read.
pub record AreFirst {X : Type 0} (spells : DerElement → X → Type 0) (all rest : List DerElement) (values : List X) : Type 0 where
  pub first : List DerElement
  pub are : all ≡ first ++ rest
  pub each : AreEach spells first values

-- Of all these values the elements of the first ones are written, and the rest are still to be.
pub record AreFirstWritten {X : Type 0} (written : X → DerElement) (inner : X → List DerElement) (all rest : List X) (elements : List DerElement) : Type 0 where
  pub first : List X
  pub parts : all ≡ first ++ rest
  pub done : AreWritten written inner first elements
