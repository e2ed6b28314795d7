use Rattle.std.proofs.Common.{◌≡◌, ◌++◌, take}
use Rattle.authenticode_signature.proofs.token_timestamper.with_copies.Given as goal

-- the passed values are copied after those of the list
abbrev pub invariant-loop-value : goal.invariant-loop-value
invariant-loop-value g l = l.list ≡ l.initial.list ++ take l.value-index l.values
