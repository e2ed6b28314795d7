use Rattle.std.proofs.Common.{◌∙◌}
use Rattle.x509_core.specs.Facts.CertificateParts.{parts_once}
use Rattle.x509_types.specs.CertificateView.{view_elements}
use Rattle.authenticode_core.proofs.path.kept.Goals as goal

pub returns-in-Ok : goal.returns-in-Ok
returns-in-Ok c = parts_once _ (view_elements c.args.named.now.certificate) (c.in-Ok.ensures.kept ∙ c.args.named.now.is)
