use Rattle.std.proofs.Common.{sym, subst}
use Rattle.demo_core.specs.Issuing.{AreStepCerts}
use Rattle.demo_core.proofs.StepHistories.{no_step}
use Rattle.demo_core.proofs.certificates.certificates_of.Goals as goal

pub loop-k-init : goal.loop-k-init
loop-k-init c = subst (AreStepCerts c.args.steps.now 0) (sym c.new-certificates.ensures.items) (no_step c.args.steps.now)
