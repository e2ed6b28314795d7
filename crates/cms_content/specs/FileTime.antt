-- Times of a trust list: FILETIME, intervals of 100 nanoseconds since 1601-01-01, UTC, as eight
-- octets (Microsoft, [MS-DTYP] 2.3.3).
use Rattle.std.specs.Prelude.{ℕ, ℤ, List, pos, take, int_div}
use Rattle.std.specs.Int.{cast_signed, from_le_bytes, w64}

-- the first eight octets as a number, little-endian, signed, in whole seconds: divided towards zero
abbrev pub seconds_of : List ℕ → ℤ
seconds_of value = int_div (cast_signed w64 (from_le_bytes w64 (take 8 value))) (pos 10000000)
