-- Optional lists.
use Rattle.std.specs.Prelude.{List, [], flat_map, Option, Some, None}
use Rattle.der_core.specs.DerElement.{DerElement}

-- the inner elements of optional values
abbrev pub inner_list : {X : Type 0} → (X → List DerElement) → Option (List X) → List DerElement
inner_list inner None = []
inner_list inner (Some values) = flat_map inner values
