use Rattle.std.proofs.Common.{◌∙◌, ap}
use Rattle.demo_core.specs.Draws.{drawn_at, next_state}
use Rattle.demo_core.proofs.Drawing.{step_is}
use Rattle.demo_core.proofs.history.next_step.Goals as goal

pub returns-clause-step : goal.returns-clause-step
returns-clause-step c =
    let one = c.draw-a.ensures.state in
    let two = c.draw-b.ensures.state ∙ ap next_state one in
    let three = c.draw-c.ensures.state ∙ ap next_state two in
    let four = c.draw-d.ensures.state ∙ ap next_state three in
    step_is c.args.k c.args.generator.now.state _ _ _ _ _ _ c.issuer_of.ensures c.path_length_of.ensures
    (c.draw-a.ensures.drawn ∙ ap drawn_at one) (c.draw-b.ensures.drawn ∙ ap drawn_at two)
    (c.draw-c.ensures.drawn ∙ ap drawn_at three) (c.draw-d.ensures.drawn ∙ ap drawn_at four)

pub returns-clause-state : goal.returns-clause-state
returns-clause-state c =
    c.draw-d.ensures.state ∙ ap next_state (c.draw-c.ensures.state ∙ ap next_state (c.draw-b.ensures.state ∙ ap next_state c.draw-a.ensures.state))
