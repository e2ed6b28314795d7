-- Optional values: what holds for a value holds for an optional one.
use Rattle.std.proofs.Common.{Option, Some, None}
use Rattle.std.specs.Option.{option_map}
use Rattle.der_core.specs.DerElement.{DerElement}
use Rattle.der_core.specs.Encoding.{IsWellFormed}
use Rattle.cms_types.specs.Levels.{OfOption}

pub options_formed : {X : Type 0} (written : X → DerElement) → ((value : X) → IsWellFormed (written value)) → (a : Option X)
    → OfOption IsWellFormed (option_map written a)
options_formed written formed None = tt
options_formed written formed (Some x) = formed x
