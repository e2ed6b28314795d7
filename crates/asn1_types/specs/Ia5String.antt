-- The octets of an IA5String (X.680 41, table 8).
use Rattle.std.specs.Prelude.{⊤, ℕ, ◌≤◌, List}
use Rattle.std.specs.List.{All}
use Rattle.asn1_types.specs.declared.error.CharSetError.{CharSetError}
use Rattle.asn1_types.specs.declared.error.CharSetError.TheVariants as errors

-- IA5 is a seven-bit alphabet: no octet is above 127.
abbrev pub IsIa5 : List ℕ → Type 0
IsIa5 text = All (λ octet. octet ≤ 127) text

-- The error is `CharSet`, for a text outside the character set, or out of memory.
abbrev pub RefusesCharSet : Type 0 → CharSetError → Type 0
RefusesCharSet inside errors.CharSet = inside → ⊥
RefusesCharSet inside errors.Memory = ⊤
