use Rattle.std.proofs.Common.{◌∷◌, [], ap, ◌∙◌}
use Rattle.der_core.specs.DerElement.{DerElement}
use Rattle.der_core.specs.Elements.{sequence}
use Rattle.cms_content.specs.SpcAttribute.{spc_attribute}
use Rattle.cms_content.proofs.indirect_data.SpcIndirectDataContentStructure.has_shape.Goals as goal

pub returns-then-has_shape-clause-fits : goal.returns-then-has_shape-clause-fits
returns-then-has_shape-clause-fits c = λ w.
    let image = c.has_shape.ensures.fits c.if-has_shape.true in
    let digest = c.has_shape-then-has_shape.ensures.fits w in (
      record { image = image.0; message_digest = digest.0 },
      c.in-Some.ensures ∙ ap (λ (e : DerElement). sequence (e ∷ c.in-Some.digest.is.0 ∷ [])) image.1
          ∙ ap (λ (e : DerElement). sequence (spc_attribute image.0 ∷ e ∷ [])) digest.1,
    )
