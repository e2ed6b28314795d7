use Rattle.std.proofs.Common.{sym, subst}
use Rattle.der_core.specs.Borrowed.{AreDer}
use Rattle.key_types.specs.PublicKeyInfo.{inner_key}
use Rattle.key_types.specs.declared.key_info.SubjectPublicKeyInfo.{SubjectPublicKeyInfo}
use Rattle.x509_types.specs.CertificateView.{view_elements}
use Rattle.authenticode_core.proofs.AcceptedSignatures.{has_key}
use Rattle.authenticode_core.proofs.signature.key_of.Goals as goal

pub returns-in-Ok : goal.returns-in-Ok
returns-in-Ok c = (
  has_key (view_elements c.args.certificate.now) _ _ _ c.subject_public_key_info.ensures c.in-Ok.ensures.0 c.from.ensures,
  subst (λ (info : SubjectPublicKeyInfo). AreDer (inner_key info.subject_public_key)) (sym c.from.ensures) c.in-Ok.ensures.1,
)
