use Rattle.std.proofs.Common.{sym, subst, ◌∙◌}
use Rattle.x509_types.specs.Certificate.{IsCertificate}
use Rattle.der_core.specs.Facts.Answers.{found, missing}
use Rattle.x509_core.specs.Facts.CertificateParts.{spelled_by}
use Rattle.x509_core.proofs.cert.is_certificate.Goals as goal

pub returns-clause-fits : goal.returns-clause-fits
returns-clause-fits c = λ w.
    let view = (found _ _ _ c.read.ensures (sym c.is_some.ensures ∙ w)).1 in
    (view.fits.0, subst (λ x. IsCertificate x view.fits.0) (sym view.is) (spelled_by _ view.fits.0 view.fits.1))

pub returns-clause-unfit : goal.returns-clause-unfit
returns-clause-unfit c = λ no. missing _ _ _ c.read.ensures (sym c.is_some.ensures ∙ no)
