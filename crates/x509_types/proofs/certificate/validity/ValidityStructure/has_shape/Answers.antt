use Rattle.std.proofs.Common.{◌∷◌, [], ap, ◌∙◌}
use Rattle.asn1_types.specs.Elements.{time}
use Rattle.x509_types.proofs.certificate.validity.ValidityStructure.has_shape.Goals as goal
use Rattle.der_core.specs.DerElement.{DerElement}
use Rattle.der_core.specs.Elements.{sequence}

pub returns-then-has_shape-clause-fits : goal.returns-then-has_shape-clause-fits
returns-then-has_shape-clause-fits c = λ w.
    let before = c.has_shape.ensures.fits c.if-has_shape.true in
    let after = c.has_shape-then-has_shape.ensures.fits w in (
      record { not_before = before.0; not_after = after.0 },
      c.in-Some.ensures ∙ ap (λ (e : DerElement). sequence (e ∷ c.in-Some.not_after.is.0 ∷ [])) before.1
          ∙ ap (λ (e : DerElement). sequence (time before.0 ∷ e ∷ [])) after.1,
    )
