-- What is known of a result by whether there is one.
use Rattle.std.specs.Prelude.{◌≡◌, Option, Some, None, MatchOption, true, false}
use Rattle.std.specs.Option.{is_some}

pub found : {X : Type 0} (o : Option X) (N : Type 0) (P : X → Type 0) → MatchOption o N P → is_some o ≡ true → (x : X) × P x
found None N P m e = absurd cc
found (Some x) N P m e = (x, m)

pub missing : {X : Type 0} (o : Option X) (N : Type 0) (P : X → Type 0) → MatchOption o N P → is_some o ≡ false → N
missing None N P m e = m
missing (Some x) N P m e = absurd cc
