use Rattle.std.proofs.Common.{sym, ◌∙◌}
use Rattle.std.proofs.lemmas.Result.{MatchResult-weaker}
use Rattle.der_core.specs.Facts.Owned.{same_encoded}
use Rattle.der_core.proofs.Exact.{refuses_none}
use Rattle.der_core.proofs.laws.read_back.Goals as goal

pub returns-clause-back : goal.returns-clause-back
returns-clause-back c =
    let written = c.in_ok-octets.ensures.written in
    let is = c.deref.ensures.value ∙ written.1 in
    MatchResult-weaker c.read_exact.result c.read_exact.ensures.answer
    (λ again found. (written.0, same_encoded _ _ found.0 written.0 (sym found.1 ∙ is)))
    (λ e refused. refuses_none _ _ e written.0 is refused)
