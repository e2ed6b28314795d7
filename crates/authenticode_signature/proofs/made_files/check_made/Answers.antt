use Rattle.authenticode_signature.proofs.CheckedFiles.{answered, answers_so, checked_so}
use Rattle.authenticode_signature.specs.MadeFile.{by_the_first}
use Rattle.std.proofs.Common.{Ok}
use Rattle.authenticode_signature.proofs.made_files.check_made.Goals as goal

pub returns-clause-over : goal.returns-clause-over
returns-clause-over g c = λ first others file_hash made.
    checked_so (g.S.Scheme.judge c.args.scheme.now) c.args.policy.now first others c.args.octets.now file_hash made c.check_wincert.result
    c.check_wincert.ensures.answer c.check_wincert.ensures.only

pub returns-clause-made : goal.returns-clause-made
returns-clause-made g c = λ first others file_hash asked made.
    answered c.check_wincert.result
    (c.check_wincert.ensures.only (Ok by_the_first)
    (answers_so (g.S.Scheme.judge c.args.scheme.now) c.args.policy.now first others c.args.octets.now file_hash made asked))
