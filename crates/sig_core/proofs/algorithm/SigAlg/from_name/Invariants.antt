use Rattle.std.proofs.Common.{◌≢◌, ℕ, ◌<◌, get_or}
use Rattle.sig_core.specs.declared.algorithm.SigAlg.{SigAlg}
use Rattle.sig_core.specs.Algorithm.{name_of}
use Rattle.sig_core.proofs.algorithm.SigAlg.from_name.Given as goal

-- no algorithm so far has the name
abbrev pub invariant-loop-alg : goal.invariant-loop-alg
invariant-loop-alg l = (k : ℕ) (d : SigAlg) → k < l.alg-index → name_of (get_or l.alg-items k d) ≢ l.name
