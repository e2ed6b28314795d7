use Rattle.std.proofs.Common.{MatchResult, subst, sym, ◌∙◌}
use Rattle.der_core.specs.Refusals.{RefusesShape}
use Rattle.der_core.specs.Facts.Owned.{same_encoded}
use Rattle.der_core.proofs.Exact.{no_fault_where_whole}
use Rattle.der_core.proofs.structure.Structure.read.Goals as goal

pub returns-in_err-elem : goal.returns-in_err-elem
returns-in_err-elem g c =
    let written = c.in_ok-octets.ensures.written in
    absurd (no_fault_where_whole _ _ _ _ written.0 (c.deref.ensures.value ∙ written.1) c.in_err-elem.ensures)

pub returns : goal.returns
returns g c =
    let elem = c.in_ok-elem.elem in
    let written = c.in_ok-octets.ensures.written in
    let lent = c.deref.ensures.value in
    subst (λ e. MatchResult c.read_at.result (g.Self.Structure.spells e) (RefusesShape (g.Self.Structure.spells e)))
    (same_encoded _ _ elem.is.1.0 written.0 (sym c.in_ok-elem.ensures ∙ lent ∙ written.1)) c.read_at.ensures
