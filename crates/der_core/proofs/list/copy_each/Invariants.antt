use Rattle.std.proofs.Common.{◌≡◌, take}
use Rattle.der_core.proofs.list.copy_each.Given as goal

abbrev pub invariant-loop-value : goal.invariant-loop-value
invariant-loop-value g l = l.copies ≡ take l.value-index l.values
