use Rattle.std.proofs.Common.{subst}
use Rattle.x509_types.specs.FoundExtensions.{AreFound}
use Rattle.x509_types.proofs.extension.first.FirstExtensions.with_all.Goals as goal

pub loop-kid-preserved : goal.loop-kid-preserved
loop-kid-preserved c = λ all found. c.with-self.ensures all _ _ c.in-Some.ensures (c.loop-kid.invariant all found)

pub returns : goal.returns
returns c = λ all found. subst (λ rest. AreFound all rest c.loop-kid.self) c.in_default.ensures.0 (c.loop-kid.invariant all found)
