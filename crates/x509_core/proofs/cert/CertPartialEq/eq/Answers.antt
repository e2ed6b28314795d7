use Rattle.std.proofs.Common.{ap, ◌∙◌}
use Rattle.x509_types.specs.CertificateElements.{certificate_of}
use Rattle.x509_core.specs.OwnedCertificate.{KeptCertificate}
use Rattle.x509_core.proofs.SameCerts.{same_certs}
use Rattle.x509_core.proofs.cert.CertPartialEq.eq.Goals as goal

pub returns-clause-same : goal.returns-clause-same
returns-clause-same c =
    same_certs _ _ c.self.inside.kept c.other.inside.kept _
    (c.self.inside.fields.1.0 ∙ ap (λ (k : KeptCertificate). certificate_of k.elements) c.self.view_is)
    (c.other.inside.fields.1.0 ∙ ap (λ (k : KeptCertificate). certificate_of k.elements) c.other.view_is)
    c.eq.ensures.same
