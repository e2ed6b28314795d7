use Rattle.std.proofs.Common.{ap}
use Rattle.der_core.specs.Owned.{KeptElement}
use Rattle.cms_content.specs.Facts.Ctls.{ctls_once}
use Rattle.cms_content.specs.declared.ctl.Ctl.{Ctl}
use Rattle.cms_content.proofs.ctl.CtlPartialEq.eq.Goals as goal

pub returns-clause-same : goal.returns-clause-same
returns-clause-same c = (
  λ w. ctls_once c.args.self.now c.args.other.now (ap (λ (k : KeptElement). k.element) (c.eq.ensures.same.0 w)),
  λ e. c.eq.ensures.same.1 (ap (λ (x : Ctl). x.element) e),
)
