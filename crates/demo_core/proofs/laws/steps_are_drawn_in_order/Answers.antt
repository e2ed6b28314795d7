use Rattle.demo_core.proofs.StepOrder.{step_at}
use Rattle.demo_core.proofs.laws.steps_are_drawn_in_order.Goals as goal

pub returns : goal.returns
returns c = step_at
