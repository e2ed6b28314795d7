-- Drawn steps are issued by earlier ones, in years from 2000 to 2039.
use Rattle.std.proofs.Common.{◌≡◌, Bool, true, false, ◌||◌, ◌==◌, if◌then◌else◌, ℕ, ◌*◌, ◌%◌, ◌<◌, Some, None, refl, arith}
use Rattle.std.proofs.lemmas.Bool.{eqb-false}
use Rattle.demo_core.specs.Draws.{drawn, state_after}
use Rattle.demo_core.specs.History.{IsStepAt, demo_step, drawn_issuer}

below : (index a issuer : ℕ) (root first : Bool) → (index == 0) ≡ first → root ≡ first || (a % 8 == 0)
    → (if root then None else Some (a % index)) ≡ Some issuer → issuer < index
below index a issuer true first zero is e = absurd cc
below index a issuer false true zero is e = absurd cc
below index a issuer false false zero is e =
    let same : a % index ≡ issuer = cc in
    let positive : (index ≡ 0 → ⊥) = eqb-false index 0 zero in
    omega (arith, same, positive)

pub issuer_below : (index a issuer : ℕ) → drawn_issuer index a ≡ Some issuer → issuer < index
issuer_below index a issuer e = below index a issuer (index == 0 || a % 8 == 0) (index == 0) refl refl e

pub step_at : (count index : ℕ) → IsStepAt index (demo_step count index)
step_at count index =
    let state = state_after count (4 * index) in
    record {
      earlier = λ issuer e. issuer_below index (drawn state 0) issuer e;
      begins = record { first_year = omega arith; last_year = omega arith };
      ends = record { first_year = omega arith; last_year = omega arith };
    }
