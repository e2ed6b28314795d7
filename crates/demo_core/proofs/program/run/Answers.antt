use Rattle.std.proofs.Common.{◌∙◌, ap, refl}
use Rattle.program_frame.specs.Stops.{status_for}
use Rattle.demo_core.proofs.Running.{IsRun-delivered, IsRun-stopped}
use Rattle.demo_core.proofs.program.run.Goals as goal

pub returns-in-Ok : goal.returns-in-Ok
returns-in-Ok g c =
    IsRun-delivered c.args.count g.O.Sink.state _ _ c.deliver.result c.in-Ok.report c.in-Ok.ensures c.deliver.ensures.delivered c.deliver.ensures.once

pub returns-in-Err : goal.returns-in-Err
returns-in-Err g c = IsRun-stopped c.args.count g.O.Sink.state _ _ c.status.result refl (c.status.ensures ∙ ap status_for c.in-Err.ensures.stopped)
