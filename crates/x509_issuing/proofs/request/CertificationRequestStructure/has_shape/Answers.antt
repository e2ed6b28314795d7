use Rattle.std.proofs.Common.{sym, ◌∙◌}
use Rattle.der_core.specs.Facts.Answers.{found, missing}
use Rattle.x509_issuing.proofs.request.CertificationRequestStructure.has_shape.Goals as goal

pub returns-clause-fits : goal.returns-clause-fits
returns-clause-fits c = λ w. (found _ _ _ c.expect_shapes.ensures (sym c.is_some.ensures ∙ w)).1

pub returns-clause-unfit : goal.returns-clause-unfit
returns-clause-unfit c = λ no. missing _ _ _ c.expect_shapes.ensures (sym c.is_some.ensures ∙ no)
