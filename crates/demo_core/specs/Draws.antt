-- The numbers that a demonstration draws: a linear congruential generator.
use Rattle.std.specs.Prelude.{ℕ, zero, suc, ◌+◌, ◌*◌, ◌/◌, ◌%◌, ◌^◌}

-- the state after a draw
abbrev pub next_state : ℕ → ℕ
next_state state = (1103515245 * state + 12345) % 2 ^ 31

-- the number that is drawn, by the state after the draw
abbrev pub drawn_at : ℕ → ℕ
drawn_at state = state / 2 ^ 16

-- the state after so many draws, from this one on
abbrev pub state_after : ℕ → ℕ → ℕ
state_after state zero = state
state_after state (suc count) = next_state (state_after state count)

-- the drawn number of this index, from this state on
abbrev pub drawn : ℕ → ℕ → ℕ
drawn state index = drawn_at (state_after state (index + 1))
