use Rattle.std.proofs.Common.{◌∷◌, [], ap, ◌∙◌}
use Rattle.der_core.specs.DerElement.{DerElement}
use Rattle.der_core.specs.Elements.{sequence}
use Rattle.asn1_types.specs.Elements.{object_identifier}
use Rattle.cms_content.proofs.ctl_attribute.CTLEntryAttributeStructure.has_shape.Goals as goal

pub returns-in-Some-at-clause-fits : goal.returns-in-Some-at-clause-fits
returns-in-Some-at-clause-fits c = λ w.
    let id = c.in-Some-at.ensures in
    let fit = c.has_shape_of.ensures.fits w in (
      record { oid = id.0; value = fit.0; fits = fit.1.0 ∙ id.2 },
      c.in-Some.ensures ∙ ap (λ (e : DerElement). sequence (e ∷ c.in-Some.values.is.0 ∷ [])) id.1
          ∙ ap (λ (e : DerElement). sequence (object_identifier id.0 ∷ e ∷ [])) fit.1.1,
    )
