use Rattle.der_core.specs.Counting.{IsCount}
use Rattle.demo_core.specs.Acceptance.{IsRootAt}
use Rattle.demo_core.proofs.acceptance.root_count.Given as goal

-- the roots so far
abbrev pub invariant-loop-k : goal.invariant-loop-k
invariant-loop-k l = IsCount (IsRootAt l.steps) l.k l.roots
