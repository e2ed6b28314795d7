use Rattle.std.proofs.Common.{◌∷◌, [], ap, ◌∙◌}
use Rattle.der_core.specs.DerElement.{DerElement}
use Rattle.der_core.specs.Elements.{sequence}
use Rattle.asn1_types.specs.Elements.{object_identifier}
use Rattle.name_types.proofs.attribute.AttributeTypeAndValueStructure.has_shape.Goals as goal

pub returns-then-has_shape-clause-fits : goal.returns-then-has_shape-clause-fits
returns-then-has_shape-clause-fits c = λ w.
    let ty = c.has_shape.ensures.fits c.if-has_shape.true in
    let value = c.has_shape-then-has_shape.ensures.fits w in (
      record { ty = ty.0; value = value.0 },
      c.in-Some.ensures ∙ ap (λ (e : DerElement). sequence (e ∷ c.in-Some.value.is.0 ∷ [])) ty.1
          ∙ ap (λ (e : DerElement). sequence (object_identifier ty.0 ∷ e ∷ [])) value.1,
    )
