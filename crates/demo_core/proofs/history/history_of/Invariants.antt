use Rattle.std.proofs.Common.{◌≡◌, ◌*◌, map}
use Rattle.std.specs.List.{range_with_len}
use Rattle.demo_core.specs.Draws.{state_after}
use Rattle.demo_core.specs.History.{step_from}
use Rattle.demo_core.proofs.history.history_of.Given as goal

-- the steps so far, and the state after their draws
abbrev pub invariant-loop-k : goal.invariant-loop-k
invariant-loop-k l = record {
  steps : l.steps.items ≡ map (λ index. step_from index (state_after l.count (4 * index))) (range_with_len 0 l.k);
  state : l.generator.state ≡ state_after l.count (4 * l.k);
}
