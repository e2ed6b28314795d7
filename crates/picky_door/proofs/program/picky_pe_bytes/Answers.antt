use Rattle.std.proofs.Common.{Some, refl}
use Rattle.picky_door.specs.Program.{program_files}
use Rattle.picky_door.proofs.program.picky_pe_bytes.Goals as goal

pub returns-clause-vouched_for : goal.returns-clause-vouched_for
returns-clause-vouched_for c low = c.call.ensures.accepted low (program_files c.args.program.now (Some c.args.table.now) c.args.list.now) (λ name. refl)

pub returns-clause-called : goal.returns-clause-called
returns-clause-called c = c.call.ensures.called (program_files c.args.program.now (Some c.args.table.now) c.args.list.now) (λ name. refl)
