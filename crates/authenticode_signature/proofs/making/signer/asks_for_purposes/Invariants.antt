use Rattle.std.proofs.Common.{◌↔◌, length}
use Rattle.authenticode_signature.specs.Walk.{SomeHasPurposes, items_left}
use Rattle.authenticode_signature.proofs.making.signer.asks_for_purposes.Given as goal

-- none of the passed ones has one
abbrev pub invariant-loop-certificate : goal.invariant-loop-certificate
invariant-loop-certificate l = SomeHasPurposes (items_left l.initial.walk) ↔ SomeHasPurposes (items_left l.walk)

abbrev pub decreases-loop-certificate : goal.decreases-loop-certificate
decreases-loop-certificate l = length (items_left l.walk)
