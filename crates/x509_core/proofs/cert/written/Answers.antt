use Rattle.std.proofs.Common.{sym, ap, subst, ◌∙◌}
use Rattle.std.proofs.lemmas.Result.{err_from_is_err_and, MatchResult-weaker}
use Rattle.der_core.specs.DerElement.{DerElement}
use Rattle.der_core.specs.Encoding.{encoding}
use Rattle.der_core.specs.Writing.{RefusesToWrite}
use Rattle.der_core.proofs.Inner.{refuses_before, refuses_last, refuses_alone}
use Rattle.x509_types.specs.Certificate.{IsCertificate, inner_certificate}
use Rattle.x509_types.specs.Facts.Certificates.{certificates}
use Rattle.x509_core.proofs.cert.written.Goals as goal

pub returns-in_err-tree : goal.returns-in_err-tree
returns-in_err-tree c =
    let p = err_from_is_err_and c.from_residual.result c.from_residual.ensures.1 in
    rw (p.1, p.2) (refuses_before (inner_certificate c.args.certificate.now) _ _ c.in_err-tree.ensures)

pub returns : goal.returns
returns c =
    let w = c.in_ok-tree.ensures in
    MatchResult-weaker c.from_tree.result c.from_tree.ensures.kept
    (λ raw o. (
      ap encoding (o.1 ∙ w.0),
      subst (λ (x : DerElement). IsCertificate x c.args.certificate.now) (sym (o.1 ∙ w.0)) (certificates.spelled c.args.certificate.now w.2),
    ))
    (λ e refused. refuses_last (inner_certificate c.args.certificate.now) _ e w.2 (refuses_alone _ e (subst (λ x. RefusesToWrite x e) w.0 refused)))
