use Rattle.std.proofs.Common.{◌∙◌, ap, subst}
use Rattle.std.proofs.lemmas.Result.{err_from_is_err_and, MatchResult-weaker}
use Rattle.der_core.specs.Encoding.{encoding, IsDer}
use Rattle.der_core.specs.Writing.{RefusesToWrite}
use Rattle.der_core.proofs.Inner.{refuses_before, refuses_last, refuses_alone}
use Rattle.der_core.proofs.structure.Structure.to_der.Goals as goal

pub returns-in_err-tree : goal.returns-in_err-tree
returns-in_err-tree g c =
    let p = err_from_is_err_and c.from_residual.result c.from_residual.ensures.1 in
    rw (p.1, p.2) (refuses_before (g.Self.Structure.inner c.args.self.now) _ _ c.in_err-tree.ensures)

pub returns : goal.returns
returns g c =
    let w = c.in_ok-tree.ensures in
    MatchResult-weaker c.write-2.result c.write-2.ensures.written
    (λ octets o. (o.1 ∙ ap encoding w.0, subst IsDer w.0 o.0, w.2))
    (λ e refused. refuses_last (g.Self.Structure.inner c.args.self.now) _ e w.2 (refuses_alone _ e (subst (λ x. RefusesToWrite x e) w.0 refused)))
