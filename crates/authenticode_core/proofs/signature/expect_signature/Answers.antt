use Rattle.std.proofs.Common.{◌∙◌}
use Rattle.x509_types.specs.CertificateView.{view_elements}
use Rattle.x509_core.specs.Facts.BorrowedKeys.{lent_key}
use Rattle.authenticode_core.proofs.AcceptedSignatures.{signed_by, refused_under}
use Rattle.authenticode_core.proofs.signature.expect_signature.Goals as goal

pub verify_by-requires : goal.verify_by-requires
verify_by-requires g c =
    lent_key (view_elements c.args.certificate.now) c.in_ok-key.key.info c.key.result.now c.in_ok-key.ensures.0 c.in_ok-key.ensures.1 c.key.ensures

pub returns-in-Ok : goal.returns-in-Ok
returns-in-Ok g c =
    signed_by (g.S.Scheme.judge c.args.scheme.now) _ c.args.hash _ c.in_ok-key.key.info c.deref.result.now c.signature.result.now
    c.in_ok-key.ensures.0 (c.deref.ensures.value ∙ c.in_ok-message.ensures) c.signature.ensures c.in-Ok.ensures.answer

pub returns : goal.returns
returns g c =
    refused_under (g.S.Scheme.judge c.args.scheme.now) _ c.args.hash _ c.in_ok-key.key.info c.deref.result.now c.signature.result.now c.in-Err.source
    c.from.result
    c.in_ok-key.ensures.0 (c.deref.ensures.value ∙ c.in_ok-message.ensures) c.signature.ensures c.from.ensures c.in-Err.ensures.answer
