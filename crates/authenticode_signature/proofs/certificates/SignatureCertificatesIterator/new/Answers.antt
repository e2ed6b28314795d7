use Rattle.std.proofs.Common.{ap, ◌∙◌}
use Rattle.der_core.specs.Encoding.{encoding}
use Rattle.x509_types.specs.CertificateElements.{CertificateElements}
use Rattle.authenticode_signature.proofs.Walks.{walk_of}
use Rattle.authenticode_signature.proofs.certificates.SignatureCertificatesIterator.new.Goals as goal

pub returns : goal.returns
returns c = walk_of _ _ _ (c.subject.ensures ∙ ap (λ (f : CertificateElements). encoding f.tbs.subject) c.view.ensures.elements)
