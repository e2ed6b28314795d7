-- How many numbers have a property.
use Rattle.std.specs.Prelude.{◌≡◌, ◌⊎◌, ℕ, zero, suc, ◌+◌}

-- of the numbers below this one, so many have the property
abbrev pub IsCount : (ℕ → Type 0) → (below number : ℕ) → Type 0
IsCount P zero number = number ≡ 0
IsCount P (suc below) number =
    (P below × ((others : ℕ) × (number ≡ others + 1) × IsCount P below others))
    ⊎ ((P below → ⊥) × IsCount P below number)
