use Rattle.std.proofs.Common.{sym, ◌∙◌}
use Rattle.der_core.specs.Facts.Owned.{same_encoded}
use Rattle.der_core.proofs.raw.Raw.from_elem.Goals as goal

pub returns : goal.returns
returns c =
    let kept = c.keep.ensures in
    same_encoded _ _ kept.0 c.args.elem.is.1.0 (sym kept.1 ∙ c.in_ok-from_slice.ensures.items ∙ c.args.elem.is.1.1)
