use Rattle.name_types.specs.Facts.Names.{same_other}
use Rattle.std.proofs.Common.{ap}
use Rattle.der_core.specs.Owned.{KeptElement}
use Rattle.name_types.specs.declared.other_value.OtherValue.{OtherValue}
use Rattle.name_types.proofs.other_value.OtherValuePartialEq.eq.Goals as goal

pub returns-clause-same : goal.returns-clause-same
returns-clause-same c = (
  λ t. same_other _ _ (ap (λ (k : KeptElement). k.element) (c.eq.ensures.same.0 t)),
  λ e. c.eq.ensures.same.1 (ap (λ (v : OtherValue). v.element) e),
)
