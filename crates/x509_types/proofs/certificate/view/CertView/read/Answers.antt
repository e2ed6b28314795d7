use Rattle.std.proofs.lemmas.Grind.{merely}
use Rattle.x509_types.proofs.Viewed.{by_certificate}
use Rattle.x509_types.proofs.certificate.view.CertView.read.Goals as goal

pub returns-in_err-parts : goal.returns-in_err-parts
returns-in_err-parts c = rw c.from_residual.ensures (λ cert spelled. c.in_err-parts.ensures spelled.elements spelled.is)

pub returns-in_err-expect_shapes : goal.returns-in_err-expect_shapes
returns-in_err-expect_shapes c =
    rw c.from_residual-in_err-expect_shapes.ensures
    (λ cert spelled. c.in_err-expect_shapes.ensures cert (by_certificate _ _ cert c.in_ok-parts.ensures spelled))

pub invariant_of-result : goal.invariant_of-result
invariant_of-result c = record { fits = merely c.in_ok-expect_shapes.ensures; first = merely c.of-firsts.ensures }

pub returns : goal.returns
returns c = record { is = c.in_ok-parts.ensures; fits = c.in_ok-expect_shapes.ensures }
