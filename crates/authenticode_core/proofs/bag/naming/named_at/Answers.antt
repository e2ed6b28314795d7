use Rattle.std.proofs.Common.{sym, subst, ◌∙◌}
use Rattle.std.proofs.lemmas.Bool.{iff_false}
use Rattle.x509_types.specs.CertificateView.{view_elements}
use Rattle.authenticode_core.specs.Inside.Wanted.{IsNamedBy}
use Rattle.authenticode_core.proofs.BagSteps.{no_member}
use Rattle.authenticode_core.proofs.OneCertificate.{one_certificate}
use Rattle.authenticode_core.proofs.bag.naming.named_at.Goals as goal

pub returns-in_err-certificate : goal.returns-in_err-certificate
returns-in_err-certificate c = rw c.from_residual.ensures (λ d m named. no_member _ c.in_err-certificate.ensures d m)

pub returns-then-not-is : goal.returns-then-not-is
returns-then-not-is c = λ d m named.
    iff_false c.is.ensures c.if-not-is.true
    (subst (IsNamedBy c.args.issuer.now c.args.serial_number.now)
    (one_certificate d (view_elements c.in_ok-certificate.certificate) (sym m.is ∙ c.in_ok-certificate.ensures.is)) named)
