use Rattle.demo_core.specs.Acceptance.{IsValidCount}
use Rattle.demo_core.proofs.acceptance.accepted_count.Given as goal

-- those that are accepted so far
abbrev pub invariant-loop-k : goal.invariant-loop-k
invariant-loop-k l = IsValidCount l.steps l.certificates l.date l.k l.accepted
