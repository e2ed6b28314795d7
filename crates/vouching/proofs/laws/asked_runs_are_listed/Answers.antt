use Rattle.std.proofs.Common.{arith}
use Rattle.vouching.proofs.Asking.{listed}
use Rattle.vouching.proofs.laws.asked_runs_are_listed.Goals as goal

pub returns : goal.returns
returns g c = λ words shelf shelf_now out out_now run.
    let done = run.reported (omega arith) in
    listed words _ _ out.held out_now.held done.line done.is_status done.has_line done.is_answer
