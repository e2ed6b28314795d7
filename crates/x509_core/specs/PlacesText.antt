-- The text of indices.
use Rattle.std.specs.Prelude.{ℕ, List, map, decimal}
use Rattle.std.specs.List.{join_with_byte}

-- the separator
abbrev pub comma : ℕ
comma = 0x2C

-- the indices in decimal, joined by `,`
abbrev pub places_text : List ℕ → List ℕ
places_text places = join_with_byte comma (map decimal places)
