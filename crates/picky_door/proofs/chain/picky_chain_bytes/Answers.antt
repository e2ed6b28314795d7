use Rattle.std.proofs.Common.{Some}
use Rattle.picky_door.specs.Chain.{chain_files}
use Rattle.picky_door.proofs.chain.picky_chain_bytes.Goals as goal

pub returns-clause-vouched_for : goal.returns-clause-vouched_for
returns-clause-vouched_for c low =
    let files = chain_files (Some c.args.table.now) c.args.certificates.now c.args.lengths.now in
    c.call.ensures.accepted low files (c.borrowed.ensures files c.files_of-files.ensures)

pub returns-clause-called : goal.returns-clause-called
returns-clause-called c =
    let files = chain_files (Some c.args.table.now) c.args.certificates.now c.args.lengths.now in
    c.call.ensures.called files (c.borrowed.ensures files c.files_of-files.ensures)
