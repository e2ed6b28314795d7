use Rattle.sha2.specs.Hashers.{Holds256}
use Rattle.demo_core.proofs.Whole.{octets_before}
use Rattle.demo_core.proofs.demonstration.sum_of.Given as goal

-- the hasher holds the octets so far
abbrev pub invariant-loop-k : goal.invariant-loop-k
invariant-loop-k l = Holds256 l.hasher (octets_before l.certificates l.k)
