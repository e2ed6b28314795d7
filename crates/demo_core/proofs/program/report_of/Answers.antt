use Rattle.std.proofs.Common.{refl}
use Rattle.demo_core.proofs.Running.{line_reports}
use Rattle.demo_core.proofs.program.report_of.Goals as goal

pub returns : goal.returns
returns c = line_reports c.args.count c.in-Ok.demonstration _ c.in-Ok.ensures
    (record { reportable = λ none. none; status = refl; line = c.in_ok-demonstration_line.ensures })
