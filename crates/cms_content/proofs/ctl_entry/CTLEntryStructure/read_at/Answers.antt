use Rattle.std.proofs.Common.{◌∷◌, [], ap, ◌∙◌}
use Rattle.std.proofs.lemmas.Result.{err_from_is_err_and}
use Rattle.der_core.specs.DerElement.{DerElement}
use Rattle.der_core.specs.Elements.{sequence, octet_string}
use Rattle.der_core.specs.Facts.Lists.{list_refused, printed_list, list_printed}
use Rattle.cms_content.specs.CtlAttribute.{ctl_attribute}
use Rattle.cms_content.proofs.CtlHeld.{second_kid}
use Rattle.cms_content.proofs.ctl_entry.CTLEntryStructure.read_at.Goals as goal

pub returns-in_err-attributes : goal.returns-in_err-attributes
returns-in_err-attributes c =
    let p = err_from_is_err_and c.from_residual-in_err-attributes.result c.from_residual-in_err-attributes.ensures.1 in
    rw (p.1, p.2) (list_refused _ _ _ (λ v is. (v.attributes, list_printed ctl_attribute 0x31 _ v.attributes (second_kid _ _ _ _ _ c.in-Some.ensures is)))
    c.in_err-attributes.ensures)

pub returns : goal.returns
returns c =
    c.in-Some.ensures ∙ ap (λ (e : DerElement). sequence (e ∷ c.in-Some.attributes.is.0 ∷ [])) c.in_ok-subject_identifier.ensures
    ∙ ap (λ (e : DerElement). sequence (octet_string c.in_ok-subject_identifier.subject_identifier ∷ e ∷ []))
    (printed_list ctl_attribute 0x31 _ c.in_ok-attributes.attributes c.in_ok-attributes.ensures)
