use Rattle.std.proofs.Common.{◌∷◌, [], ap, ◌∙◌}
use Rattle.der_core.specs.DerElement.{DerElement}
use Rattle.der_core.specs.Elements.{sequence}
use Rattle.x509_types.proofs.attribute.AttributeStructure.has_shape.Goals as goal

pub returns-in-Some-at-clause-fits : goal.returns-in-Some-at-clause-fits
returns-in-Some-at-clause-fits c = λ w.
    let id = c.in-Some-at.ensures in
    let fit = c.has_shape_of.ensures.fits w in
    let values = c.in-Some.values.is.0 in (
      record { ty = id.0; value = fit.0; fits = fit.1.0 ∙ id.2 },
      record { values = values; is = c.in-Some.ensures ∙ ap (λ (e : DerElement). sequence (e ∷ values ∷ [])) id.1; spelled = fit.1.1 },
    )
