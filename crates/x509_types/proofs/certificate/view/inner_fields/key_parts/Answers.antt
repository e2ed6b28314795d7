use Rattle.std.proofs.Common.{ap, ◌∙◌}
use Rattle.std.specs.Prelude.{Some}
use Rattle.der_core.specs.DerElement.{DerElement, Primitive}
use Rattle.x509_types.specs.CertificateFields.{kid, bits_of}
use Rattle.x509_types.proofs.Moments.{no_bits}
use Rattle.x509_types.proofs.certificate.view.inner_fields.key_parts.Goals as goal

pub returns-in_err-contents : goal.returns-in_err-contents
returns-in_err-contents c = rw c.from_residual-in_err-contents.ensures (λ info is. no_bits _ _ _ info c.in_ok-algorithm.ensures c.in_err-contents.ensures is.0)

pub returns : goal.returns
returns c = (
  ap (kid 0) c.in_ok-algorithm.ensures,
  ap (λ (e : DerElement). bits_of (kid 1 e)) c.in_ok-algorithm.ensures
      ∙ ap (λ (e : DerElement). bits_of (Some e)) (c.in_ok-contents.ensures ∙ ap (Primitive 0x03) c.in_ok-_unused.ensures.cases.0),
)
