use Rattle.x509_types.specs.CertificateView.{view_elements}
use Rattle.x509_types.proofs.Viewed.{by_certificate}
use Rattle.x509_types.proofs.laws.views_lend_what_certificates_have.Goals as goal

pub returns : goal.returns
returns c = λ element view cert is spelled. by_certificate element (view_elements view) cert is.is spelled
