use Rattle.std.proofs.Common.{ap, ◌∙◌}
use Rattle.der_core.specs.Owned.{KeptElement}
use Rattle.x509_types.specs.CertificateElements.{certificate_of}
use Rattle.x509_core.specs.OwnedCertificate.{KeptCertificate}
use Rattle.x509_core.specs.Facts.Certs.{kept_once}
use Rattle.x509_core.proofs.cert.Cert.try_clone.Goals as goal

pub returns : goal.returns
returns c =
    kept_once _ _
    (c.of_parts.ensures.0 ∙ ap (λ (k : KeptElement). k.element) c.in_ok-kept.ensures ∙ c.self.inside.fields.1.0
    ∙ ap (λ (k : KeptCertificate). certificate_of k.elements) c.self.view_is)
