use Rattle.std.proofs.Common.{[]}
use Rattle.demo_core.proofs.Ancestors.{root_at}
use Rattle.demo_core.proofs.acceptance.is_root.Goals as goal

pub returns-in-None : goal.returns-in-None
returns-in-None c = root_at c.args.steps.now [] c.args.index c.requires.within c.in-None.ensures
