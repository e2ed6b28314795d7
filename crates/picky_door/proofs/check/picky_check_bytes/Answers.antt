use Rattle.std.proofs.Common.{Some, refl}
use Rattle.picky_door.specs.Check.{check_files}
use Rattle.picky_door.proofs.check.picky_check_bytes.Goals as goal

pub returns-clause-vouched_for : goal.returns-clause-vouched_for
returns-clause-vouched_for c low = c.call.ensures.accepted low (check_files c.args.signature.now (Some c.args.table.now) c.args.list.now) (λ name. refl)

pub returns-clause-called : goal.returns-clause-called
returns-clause-called c = c.call.ensures.called (check_files c.args.signature.now (Some c.args.table.now) c.args.list.now) (λ name. refl)
