use Rattle.wincert_core.specs.Refusal.{current}
use Rattle.authenticode_signature.proofs.ReadFiles.{returned_so}
use Rattle.authenticode_signature.proofs.made_files.wrap.Goals as goal

pub returns-in-Err : goal.returns-in-Err
returns-in-Err c = returned_so (current c.args.der.now c.args.certificate_type) c.in-Err.source c.from.result c.from.ensures c.in-Err.ensures.given
