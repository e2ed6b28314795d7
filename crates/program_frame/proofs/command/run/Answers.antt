use Rattle.program_frame.proofs.Runs.{IsRun-ended, IsRun-memory, IsRun-unasked, found_held, none_held, failed_held}
use Rattle.program_frame.proofs.command.run.Goals as goal

pub returns-in-Some : goal.returns-in-Some
returns-in-Some g c words is =
    let found = found_held g.C.Command.program words g.C.Command.asked c.args.parsed.now c.in-Ok.found c.in-Some.command c.in-Ok.is c.in-Some.is is in
    IsRun-ended g.C.Command.program words g.F.Shelf.state _ _ _ found.0 found.1 c.answer.result c.answer.ensures _ _ c.finish.ensures.capacity c.finish.result
    c.finish.ensures.once c.finish.ensures.ends

pub returns-in-None : goal.returns-in-None
returns-in-None g c words is =
    IsRun-unasked g.C.Command.program words g.F.Shelf.state _ _
    (none_held g.C.Command.program words g.C.Command.asked c.args.parsed.now c.in-Ok.found c.in-Ok.is c.in-None.is is)

pub returns-in-Err : goal.returns-in-Err
returns-in-Err g c words is =
    IsRun-memory g.C.Command.program words g.F.Shelf.state _ _
    (failed_held g.C.Command.program words g.C.Command.asked c.args.parsed.now c.in-Err.field-0 c.in-Err.is is)
