use Rattle.std.proofs.Common.{◌≢◌, ℕ, ◌<◌, get_or}
use Rattle.key_core.specs.declared.ed_algorithm.EdAlgorithm.{EdAlgorithm}
use Rattle.key_core.specs.EdAlgorithm.{ed_identifier}
use Rattle.key_core.proofs.ed_algorithm.EdAlgorithm.named.Given as goal

-- no algorithm so far has the OID
abbrev pub invariant-loop-algorithm : goal.invariant-loop-algorithm
invariant-loop-algorithm l =
    (k : ℕ) (d : EdAlgorithm) → k < l.algorithm-index → ed_identifier (get_or l.algorithm-items k d) ≢ l.oid
