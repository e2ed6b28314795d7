use Rattle.door_frame.specs.Pool.{pooled_files}
use Rattle.picky_door.proofs.ask.picky_ask_bytes.Goals as goal

pub returns-clause-called : goal.returns-clause-called
returns-clause-called c =
    let files = pooled_files c.args.pool.now c.args.lengths.now in
    c.call.ensures.called files (c.borrowed.ensures files c.pooled-files.ensures)
