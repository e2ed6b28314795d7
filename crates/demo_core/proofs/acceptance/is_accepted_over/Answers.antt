use Rattle.demo_core.proofs.Ancestors.{refused_is}
use Rattle.demo_core.proofs.acceptance.is_accepted_over.Goals as goal

pub returns : goal.returns
returns c = refused_is c.args.date.now c.args.checked.now c.args.parents.now c.in-Err.error c.in_default.not-Memory c.in-Err.ensures
