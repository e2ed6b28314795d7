use Rattle.std.proofs.Common.{Some, refl}
use Rattle.door_frame.specs.Pool.{pooled_files}
use Rattle.picky_door.proofs.GivenFiles.{with_table}
use Rattle.picky_door.proofs.chain.files_of.Goals as goal

pub returns : goal.returns
returns c name =
    with_table _ c.push.new.self.items _ (Some c.args.table.now) (pooled_files c.args.certificates.now c.args.lengths.now name) name
    c.in_ok-push.ensures.items refl refl (c.in_ok-files.ensures name)
