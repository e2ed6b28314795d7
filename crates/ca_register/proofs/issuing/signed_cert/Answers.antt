use Rattle.std.proofs.Common.{refl, ap, ◌∙◌}
use Rattle.sig_core.specs.declared.hash.HashAlgorithm.TheVariants.{SHA2_256}
use Rattle.key_core.specs.declared.signature_algorithm.SignatureAlgorithm.TheVariants.{RsaPkcs1v15}
use Rattle.x509_types.specs.CertificateElements.{CertificateElements}
use Rattle.x509_core.specs.Link.{signed_octets}
use Rattle.x509_core.proofs.SignedParts.{signed_by, signed_with}
use Rattle.ca_register.proofs.Builders.{signed_or_not}
use Rattle.ca_register.proofs.issuing.signed_cert.Goals as goal

pub returns-in-Ok : goal.returns-in-Ok
returns-in-Ok g c =
    let info = c.public_key-key.result.now.info in (
      refl,
      signed_by (g.S.Scheme.judge c.args.scheme.now) c.args.parent.now c.args.cert (RsaPkcs1v15 SHA2_256) info c.tbs.result.now c.signature.result.now
          (signed_with c.args.parent.now c.args.cert (RsaPkcs1v15 SHA2_256) info c.public_key-key.ensures c.requires.named)
          (c.tbs.ensures ∙ ap signed_octets c.view-fields.ensures.elements)
          (c.signature.ensures ∙ ap (λ (f : CertificateElements). f.signature) c.view-fields.ensures.elements)
          c.in-Ok.ensures.answer,
    )

pub returns-in-Err : goal.returns-in-Err
returns-in-Err g c =
    let info = c.public_key-key.result.now.info in
    rw c.wrong_key.ensures
    (signed_or_not (g.S.Scheme.judge c.args.scheme.now) c.args.parent.now c.args.cert (RsaPkcs1v15 SHA2_256)
    info c.tbs.result.now c.signature.result.now c.in-Err.source
    (signed_with c.args.parent.now c.args.cert (RsaPkcs1v15 SHA2_256) info c.public_key-key.ensures c.requires.named)
    (c.tbs.ensures ∙ ap signed_octets c.view-fields.ensures.elements)
    (c.signature.ensures ∙ ap (λ (f : CertificateElements). f.signature) c.view-fields.ensures.elements)
    c.in-Err.ensures.answer)
