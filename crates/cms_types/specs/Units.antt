-- Texts in units of 16 bits (ISO/IEC 10646, X.690 8.23.8).
use Rattle.std.specs.Prelude.{◌≡◌, ◌≤◌, ℕ, ◌/◌, ◌%◌, List, [], ◌∷◌, length, flat_map}
use Rattle.std.specs.List.{All}
use Rattle.std.specs.Str.{chars}

-- there are two octets for each unit
abbrev pub AreUnits : List ℕ → Type 0
AreUnits octets = length octets % 2 ≡ 0

-- the two octets of a unit, in big-endian order
abbrev pub unit_octets : ℕ → List ℕ
unit_octets unit = unit / 256 ∷ unit % 256 ∷ []

-- Each character of a text is in the basic plane: it has a number below 2^16, which is its unit.
abbrev pub IsBasicPlane : List ℕ → Type 0
IsBasicPlane text = All (λ character. character ≤ 0xFFFF) (chars text)

-- the octets of the units of such a text
abbrev pub text_units : List ℕ → List ℕ
text_units text = flat_map unit_octets (chars text)
