use Rattle.std.proofs.Common.{sym, subst}
use Rattle.x509_types.specs.CertificateElements.{CertificateElements}
use Rattle.authenticode_core.specs.Indices.{StandsAt}
use Rattle.authenticode_core.proofs.excuse.expect_linked.Goals as goal

pub returns-in-Ok : goal.returns-in-Ok
returns-in-Ok g c = λ bag is stands. c.in-Ok.ensures bag is (subst (λ (e : CertificateElements). StandsAt bag 0 e) (sym c.in_ok-first.ensures) stands)
