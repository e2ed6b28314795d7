use Rattle.std.proofs.Common.{ap, ◌∙◌}
use Rattle.x509_types.specs.CertificateElements.{CertificateElements}
use Rattle.x509_types.specs.CertificateView.{view_elements}
use Rattle.x509_core.specs.Link.{signed_octets}
use Rattle.x509_core.proofs.SignedParts.{signed_with, signed_by, badly_signed, kept_key}
use Rattle.x509_core.proofs.viewed.ViewedCert.expect_accepted.Goals as goal

pub verify_by-requires : goal.verify_by-requires
verify_by-requires g c = kept_key c.args.parent.now.cert.now (view_elements c.args.parent.now.view)
    c.public_key.result.now.info c.key.result.now c.args.parent.now.same c.public_key.ensures c.key.ensures

pub returns-in-Ok : goal.returns-in-Ok
returns-in-Ok g c =
    let parent = c.args.parent.now.cert.now in
    let child = c.args.self.now.cert.now in
    let info = c.public_key.result.now.info in
    signed_by (g.S.Scheme.judge c.args.scheme.now) parent child c.args.algorithm info c.tbs.result.now c.signature.result.now
    (signed_with parent child c.args.algorithm info c.public_key.ensures c.requires)
    (c.tbs.ensures ∙ ap signed_octets c.args.self.now.same)
    (c.signature.ensures ∙ ap (λ (f : CertificateElements). f.signature) c.args.self.now.same)
    c.in-Ok.ensures.answer

pub returns-in-Err : goal.returns-in-Err
returns-in-Err g c =
    let parent = c.args.parent.now.cert.now in
    let child = c.args.self.now.cert.now in
    let info = c.public_key.result.now.info in
    badly_signed (g.S.Scheme.judge c.args.scheme.now) parent child c.args.algorithm info c.tbs.result.now c.signature.result.now c.in-Err.source
    c.badly_signed.result
    (signed_with parent child c.args.algorithm info c.public_key.ensures c.requires)
    (c.tbs.ensures ∙ ap signed_octets c.args.self.now.same)
    (c.signature.ensures ∙ ap (λ (f : CertificateElements). f.signature) c.args.self.now.same)
    c.in-Err.ensures.answer c.badly_signed.ensures.memory c.badly_signed.ensures.returned
