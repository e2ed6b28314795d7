use Rattle.wincert_core.specs.Refusal.{encoded}
use Rattle.authenticode_signature.proofs.ReadFiles.{returned_so}
use Rattle.authenticode_signature.proofs.made_files.spell.Goals as goal

pub returns-in-Err : goal.returns-in-Err
returns-in-Err c = returned_so (encoded c.args.wrapped) c.in-Err.source c.from.result c.from.ensures c.in-Err.ensures.given
