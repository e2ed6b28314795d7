use Rattle.std.proofs.Common.{Err, ap}
use Rattle.wincert_core.specs.Refusal.{contents_in}
use Rattle.x509_core.proofs.NoRefusal.{no_refusal}
use Rattle.authenticode_signature.proofs.ReadFiles.{returned_as, returned_so}
use Rattle.authenticode_signature.proofs.made_files.unwrap.Goals as goal

pub returns-in-Ok-clause-refused : goal.returns-in-Ok-clause-refused
returns-in-Ok-clause-refused c = λ source refuses. absurd (no_refusal _ source (c.in-Ok.ensures.refused source refuses))

pub returns-in-Err-clause-answer : goal.returns-in-Err-clause-answer
returns-in-Err-clause-answer c = returned_so (contents_in c.args.octets.now) c.in-Err.source c.from.result c.from.ensures c.in-Err.ensures.given

pub returns-in-Err-clause-refused : goal.returns-in-Err-clause-refused
returns-in-Err-clause-refused c =
    λ source refuses. ap Err (returned_as c.in-Err.source source c.from.result (c.in-Err.ensures.refused source refuses) c.from.ensures)
