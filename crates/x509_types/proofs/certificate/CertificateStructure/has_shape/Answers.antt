use Rattle.std.proofs.Common.{sym, ◌∙◌}
use Rattle.der_core.specs.Facts.Answers.{found, missing}
use Rattle.x509_types.specs.CertificateView.{view_elements}
use Rattle.x509_types.proofs.certificate.CertificateStructure.has_shape.Goals as goal

pub returns-clause-fits : goal.returns-clause-fits
returns-clause-fits c = λ w.
    let view = found _ _ _ c.read.ensures (sym c.is_some.ensures ∙ w) in
    (view.1.fits.0, record { elements = view_elements view.0; is = view.1.is; spelled = view.1.fits.1 })

pub returns-clause-unfit : goal.returns-clause-unfit
returns-clause-unfit c = λ no. missing _ _ _ c.read.ensures (sym c.is_some.ensures ∙ no)
