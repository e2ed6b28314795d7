use Rattle.std.proofs.Common.{◌≡◌, ◌*◌, refl, sym, ◌∙◌, ap, subst, arith, map, ◌∷◌, ◌++◌, []}
use Rattle.std.specs.List.{range_with_len}
use Rattle.std.proofs.lemmas.List.FromFn.{map-range_with_len_more}
use Rattle.demo_core.specs.Draws.{state_after}
use Rattle.demo_core.specs.History.{step_from}
use Rattle.demo_core.proofs.Drawing.{four_later}
use Rattle.demo_core.proofs.history.history_of.Goals as goal

pub loop-k-init : goal.loop-k-init
loop-k-init c = record { steps = cc; state = refl }

pub loop-k-preserved : goal.loop-k-preserved
loop-k-preserved c =
    let held = c.loop-k.invariant in
    let more = map-range_with_len_more (λ index. step_from index (state_after c.args.count (4 * index))) 0 c.loop-k.k c.loop-k.k (omega arith) in
    let step = c.next_step.ensures.step ∙ ap (step_from c.loop-k.k) held.state in
    record {
      steps = c.in_ok-push.ensures.items ∙ ap (λ s. s ++ c.next_step.result ∷ []) held.steps
          ∙ ap (λ s. map (λ index. step_from index (state_after c.args.count (4 * index))) (range_with_len 0 c.loop-k.k) ++ s ∷ []) step ∙ sym more;
      state = c.next_step.ensures.state ∙ ap (λ s. state_after s 4) held.state ∙ sym (four_later c.args.count c.loop-k.k);
    }

pub returns : goal.returns
returns c = let last : c.loop-k.k ≡ c.args.count = omega arith in
    subst (λ k. c.loop-k.steps.items ≡ map (λ index. step_from index (state_after c.args.count (4 * index))) (range_with_len 0 k)) last c.loop-k.invariant.steps
