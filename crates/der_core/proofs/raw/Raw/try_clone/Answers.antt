use Rattle.std.proofs.Common.{sym, ap, ◌∙◌}
use Rattle.der_core.specs.Owned.{KeptElement}
use Rattle.der_core.specs.Facts.Owned.{same_encoded, same_kept}
use Rattle.der_core.proofs.raw.Raw.try_clone.Goals as goal

pub returns : goal.returns
returns c =
    let mine = c.self.inside.kept in
    let kept = c.keep.ensures in
    let same = c.in_ok-from_slice.ensures.items ∙ c.deref.ensures.value in
    same_kept _ _ (same_encoded _ mine.0 kept.0 mine.1.0 (sym kept.1 ∙ same ∙ mine.1.1) ∙ ap (λ (k : KeptElement). k.element) c.self.view_is)
