use Rattle.std.proofs.Common.{sym, ap, ◌∙◌}
use Rattle.x509_types.specs.CertificateElements.{certificate_of}
use Rattle.x509_core.specs.OwnedCertificate.{KeptCertificate}
use Rattle.x509_core.specs.Facts.CertificateParts.{parts_once}
use Rattle.x509_core.proofs.OwnedFields.{known_certificate}
use Rattle.x509_core.proofs.cert.Cert.view.Goals as goal

pub of_known-requires : goal.of_known-requires
of_known-requires c = known_certificate _ _ _ c.elem.ensures c.self.inside.fields

pub returns-clause-elements : goal.returns-clause-elements
returns-clause-elements c =
    parts_once _ _ (sym c.of_known.ensures.is ∙ c.elem.ensures ∙ c.self.inside.fields.1.0
    ∙ ap (λ (k : KeptCertificate). certificate_of k.elements) c.self.view_is)
