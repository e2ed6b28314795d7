use Rattle.std.proofs.Common.{◌≢◌, ℕ, ◌<◌, get_or, Some}
use Rattle.key_core.specs.declared.signature_algorithm.SignatureAlgorithm.{SignatureAlgorithm}
use Rattle.key_core.specs.SignatureAlgorithm.{signature_identifier}
use Rattle.key_core.proofs.signature_algorithm.SignatureAlgorithm.named.Given as goal

-- no algorithm so far has the OID
abbrev pub invariant-loop-algorithm : goal.invariant-loop-algorithm
invariant-loop-algorithm l =
    (k : ℕ) (d : SignatureAlgorithm) → k < l.algorithm-index → signature_identifier (get_or l.algorithm-items k d) ≢ Some l.oid
