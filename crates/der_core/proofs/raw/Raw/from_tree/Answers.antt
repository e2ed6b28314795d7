use Rattle.std.proofs.Common.{sym, ◌∙◌}
use Rattle.der_core.specs.Facts.Owned.{same_encoded}
use Rattle.der_core.proofs.raw.Raw.from_tree.Goals as goal

pub returns-clause-kept : goal.returns-clause-kept
returns-clause-kept c =
    let written = c.in_ok-write.ensures.written in
    let kept = c.keep.ensures in
    (written.0, same_encoded _ _ kept.0 written.0 (sym kept.1 ∙ written.1))
