-- The state of the generator after the draws of a step, and the history with a step more.
use Rattle.std.proofs.Common.{◌≡◌, ℕ, ◌+◌, ◌*◌, suc, Option, refl, arith}
use Rattle.demo_core.specs.Draws.{drawn, state_after}
use Rattle.demo_core.specs.History.{drawn_issuer, drawn_path_length, step_from, step_of}

pub four_later : (state index : ℕ) → state_after state (4 * (index + 1)) ≡ state_after (state_after state (4 * index)) 4
four_later state index = let e : 4 * (index + 1) ≡ suc (suc (suc (suc (4 * index)))) = omega arith in rw e refl

-- the step of four drawn numbers
pub step_is : (index state a b c d : ℕ) (issuer path_length : Option ℕ) → issuer ≡ drawn_issuer index a → path_length ≡ drawn_path_length b → a ≡ drawn state 0
    → b ≡ drawn state 1 → c ≡ drawn state 2 → d ≡ drawn state 3
    → step_of issuer b path_length c d ≡ step_from index state
step_is index state a b c d issuer path_length by_a by_b is_a is_b is_c is_d = rw (by_a, by_b, is_a, is_b, is_c, is_d) refl
