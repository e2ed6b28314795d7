use Rattle.std.proofs.Common.{rules, ap, ◌∙◌}
use Rattle.der_core.specs.Owned.{KeptElement}
use Rattle.der_core.proofs.InOctets.{one_kept, kept_first, kept_not_none}
use Rattle.der_core.proofs.raw.Raw.elem.Goals as goal

pub invariant_of-one : goal.invariant_of-one
invariant_of-one c = record { are = one_kept _ _ c.self.inside.kept c.deref.ensures.value }

pub unreachable-requires : goal.unreachable-requires
unreachable-requires c = kept_not_none _ _ _ _ c.self.inside.kept.1 c.deref.ensures.value (search rules) c.in-None.ensures.0

pub returns : goal.returns
returns c = kept_first _ _ _ _ _ _ c.self.inside.kept.1 c.deref.ensures.value (search rules) c.in-Some.ensures
    ∙ ap (λ (k : KeptElement). k.element) c.self.view_is
