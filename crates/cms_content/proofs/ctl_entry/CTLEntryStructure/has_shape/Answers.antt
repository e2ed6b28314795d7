use Rattle.std.proofs.Common.{◌∷◌, [], ap, ◌∙◌}
use Rattle.der_core.specs.DerElement.{DerElement}
use Rattle.der_core.specs.Elements.{sequence, octet_string}
use Rattle.der_core.specs.Facts.Lists.{printed_list, list_printed}
use Rattle.cms_content.specs.CtlAttribute.{ctl_attribute}
use Rattle.cms_content.proofs.CtlHeld.{second_kid}
use Rattle.cms_content.proofs.ctl_entry.CTLEntryStructure.has_shape.Goals as goal

pub returns-then-has_shape-clause-fits : goal.returns-then-has_shape-clause-fits
returns-then-has_shape-clause-fits c = λ w.
    let subject = c.has_shape.ensures.fits c.if-has_shape.true in
    let list = c.has_list.ensures.fits w in (
      record { subject_identifier = subject.0; attributes = list.0 },
      c.in-Some.ensures ∙ ap (λ (e : DerElement). sequence (e ∷ c.in-Some.attributes.is.0 ∷ [])) subject.1
          ∙ ap (λ (e : DerElement). sequence (octet_string subject.0 ∷ e ∷ [])) (printed_list ctl_attribute 0x31 _ list.0 list.1),
    )

pub returns-then-has_shape-clause-unfit : goal.returns-then-has_shape-clause-unfit
returns-then-has_shape-clause-unfit c =
    λ none v is. c.has_list.ensures.unfit none v.attributes (list_printed ctl_attribute 0x31 _ v.attributes (second_kid _ _ _ _ _ c.in-Some.ensures is))
