-- The errors of writing a tree.
use Rattle.std.specs.Prelude.{◌<◌, ◌≤◌}
use Rattle.der_core.specs.DerElement.{DerElement}
use Rattle.der_core.specs.Causes.{NoFault, Refuses}
use Rattle.der_core.specs.Encoding.{nesting, IsShort, most_levels}
use Rattle.der_core.specs.declared.error.DerError.{DerError}

-- Too deep comes before too long.
abbrev pub RefusesToWrite : DerElement → DerError → Type 0
RefusesToWrite element =
    Refuses NoFault ⊥ (most_levels < nesting element)
    ((nesting element ≤ most_levels) × (IsShort element → ⊥))

-- Only contents that are too long, or out of memory, prevent a part from being written.
abbrev pub RefusesLong : Type 0 → DerError → Type 0
RefusesLong short = Refuses NoFault ⊥ ⊥ (short → ⊥)
