use Rattle.std.proofs.Common.{Option, ap, ◌∙◌}
use Rattle.der_core.specs.DerElement.{DerElement}
use Rattle.der_core.specs.BorrowedOption.{at_option}
use Rattle.der_core.specs.Facts.BorrowedOption.{keep_option}
use Rattle.asn1_types.specs.Elements.{object_identifier}
use Rattle.cms_content.specs.SpcAttribute.{spc_attribute_of}
use Rattle.cms_content.proofs.spc_attribute.SpcAttributeTypeAndOptionalValueStructure.has_shape.Goals as goal

pub returns-in-Some-clause-fits : goal.returns-in-Some-clause-fits
returns-in-Some-clause-fits c = λ w.
    let ty = c.has_shape.ensures.fits w in
    let value = keep_option c.in-Some.fields.value in (
      record { ty = ty.0; value = value.0 },
      c.in-Some.ensures ∙ ap (λ (e : DerElement). spc_attribute_of e (at_option c.in-Some.fields.value)) ty.1
          ∙ ap (λ (v : Option DerElement). spc_attribute_of (object_identifier ty.0) v) value.1,
    )
