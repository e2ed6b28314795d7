-- A success is no refusal, and a refusal is one error.
use Rattle.std.proofs.Common.{◌≡◌, Result, Ok, Err}

pub no_refusal : {A E : Type 0} (x : A) (e : E) → ◌≡◌ {A = Result A E} (Ok x) (Err e) → ⊥
no_refusal x e same = absurd cc

pub one_error : {A E : Type 0} (d e : E) → ◌≡◌ {A = Result A E} (Err d) (Err e) → d ≡ e
one_error d e same = cc
