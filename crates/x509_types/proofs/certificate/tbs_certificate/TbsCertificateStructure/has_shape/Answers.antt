use Rattle.std.proofs.Common.{sym, ◌∙◌}
use Rattle.der_core.specs.Facts.Answers.{found, missing}
use Rattle.x509_types.proofs.Spelled.{by_fields, of_fields}
use Rattle.x509_types.proofs.certificate.tbs_certificate.TbsCertificateStructure.has_shape.Goals as goal

pub returns-in-Some-clause-fits : goal.returns-in-Some-clause-fits
returns-in-Some-clause-fits c = λ w. let f = found _ _ _ c.expect_shapes.ensures (sym c.is_some.ensures ∙ w) in (f.1.0, of_fields _ _ _ c.in-Some.ensures f.1.1)

pub returns-in-Some-clause-unfit : goal.returns-in-Some-clause-unfit
returns-in-Some-clause-unfit c = λ no tbs p. missing _ _ _ c.expect_shapes.ensures (sym c.is_some.ensures ∙ no) tbs (by_fields _ _ tbs c.in-Some.ensures p)
