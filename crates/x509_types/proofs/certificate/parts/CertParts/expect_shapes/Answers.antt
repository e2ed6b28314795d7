use Rattle.std.proofs.Common.{ap, ◌∙◌}
use Rattle.der_core.specs.DerElement.{Primitive}
use Rattle.x509_types.proofs.Viewed.{all_spelled}
use Rattle.x509_types.proofs.certificate.parts.CertParts.expect_shapes.Goals as goal

pub returns-in_err-expect_shapes : goal.returns-in_err-expect_shapes
returns-in_err-expect_shapes c = rw c.from_residual.ensures (λ cert are. c.in_err-expect_shapes.ensures cert.tbs_certificate are.tbs)

pub returns-in_err-expect : goal.returns-in_err-expect
returns-in_err-expect c = rw c.from_residual-in_err-expect.ensures (λ cert are. c.in_err-expect.ensures cert.signature_algorithm are.algorithm)

pub returns-in_err-expect-2 : goal.returns-in_err-expect-2
returns-in_err-expect-2 c =
    rw c.from_residual-in_err-expect-2.ensures
    (λ cert are. c.in_err-expect-2.ensures cert.signature_value (c.args.self.now.bits
    ∙ ap (Primitive 0x03) are.signature))

pub returns : goal.returns
returns c = all_spelled _ c.args.self.now.value.is.0 c.in_ok-expect_shapes.ensures c.in_ok-expect.ensures c.in_ok-expect-2.ensures c.args.self.now.bits
