use Rattle.std.proofs.Common.{sym, subst, ◌∙◌}
use Rattle.std.proofs.lemmas.Result.{err_from_is_err_and, MatchResult-weaker}
use Rattle.der_core.specs.DerElement.{DerElement}
use Rattle.der_core.specs.Writing.{RefusesToWrite}
use Rattle.der_core.proofs.Inner.{refuses_before, refuses_last, refuses_alone}
use Rattle.x509_issuing.specs.CertificationRequest.{IsRequest, inner_of_request}
use Rattle.x509_issuing.specs.Facts.Requests.{requests}
use Rattle.x509_issuing.proofs.csr.written.Goals as goal

pub returns-in_err-tree : goal.returns-in_err-tree
returns-in_err-tree c =
    let p = err_from_is_err_and c.from_residual.result c.from_residual.ensures.1 in
    rw (p.1, p.2) (refuses_before (inner_of_request c.args.value.now) _ _ c.in_err-tree.ensures)

pub returns : goal.returns
returns c =
    let w = c.in_ok-tree.ensures in
    MatchResult-weaker c.from_tree.result c.from_tree.ensures.kept
    (λ raw o. (o.1 ∙ w.0, subst (λ (x : DerElement). IsRequest x c.args.value.now) (sym (o.1 ∙ w.0)) (requests.spelled c.args.value.now w.2)))
    (λ e refused. refuses_last (inner_of_request c.args.value.now) _ e w.2 (refuses_alone _ e (subst (λ x. RefusesToWrite x e) w.0 refused)))
