use Rattle.demo_core.proofs.Smallness.{drawn_small}
use Rattle.demo_core.proofs.laws.certificates_are_small.Goals as goal

pub returns : goal.returns
returns c = drawn_small
