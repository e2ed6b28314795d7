-- Counters: a count never falls, and stops at its last value. They count events of timestampers,
-- shelves and sinks, in the crates above.
use Rattle.std.specs.Prelude.{◌≡◌, ◌⊎◌, ◌<◌, ◌≤◌, ◌+◌, ℕ, min, max}

-- the last value of a count of 64 bits
abbrev pub last_count : ℕ
last_count = 18446744073709551615

-- a count goes on: it doesn't fall, and stops at its last value
pub record GoesOn (before now : ℕ) : Type 0 where
  pub no_fall : before ≤ now
  pub fits : now ≤ last_count

-- it rose, or is at its last value
abbrev pub HasRisen : ℕ → ℕ → Type 0
HasRisen before now = (before < now) ⊎ (now ≡ last_count)

-- It rose by this number, but not past its last value.
abbrev pub RisesBy : (number before now : ℕ) → Type 0
RisesBy number before now = now ≡ max before (min (before + number) last_count)

-- At most one of the calls failed: then the result reports it, and else the count is unchanged.
pub record FailsOnce (HasFailed : Type 0) (before now : ℕ) : Type 0 where
  pub once : now ≤ before + 1
  pub reported : HasFailed ⊎ (now ≡ before)
