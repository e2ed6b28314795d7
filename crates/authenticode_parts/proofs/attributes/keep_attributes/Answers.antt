use Rattle.std.proofs.Common.{[], ◌∷◌, map, subst, ◌∙◌}
use Rattle.std.proofs.lemmas.Result.{err_from_is_err_and}
use Rattle.der_core.specs.DerElement.{DerElement}
use Rattle.der_core.specs.Writing.{RefusesToWrite}
use Rattle.der_core.proofs.Inner.{refuses_alone, refuses_before, refuses_last}
use Rattle.x509_types.specs.Attribute.{attribute, inner_attributes}
use Rattle.authenticode_parts.specs.MadeSignature.{attributes_element}
use Rattle.authenticode_parts.proofs.OwnedAttributes.{kept_or_refused}
use Rattle.authenticode_parts.proofs.attributes.keep_attributes.Goals as goal

pub returns-in_err-tree : goal.returns-in_err-tree
returns-in_err-tree c =
    let p = err_from_is_err_and c.from_residual.result c.from_residual.ensures.1 in
    rw (p.1, p.2)
    (refuses_before (inner_attributes c.args.list.now) (attributes_element (map attribute c.args.list.now) ∷ []) c.in_err-tree.field-0.0 c.in_err-tree.ensures)

pub returns-in_err-kept : goal.returns-in_err-kept
returns-in_err-kept c =
    let p = err_from_is_err_and c.from_residual-in_err-kept.result c.from_residual-in_err-kept.ensures.1 in
    let w = c.in_ok-tree.ensures in
    rw (p.1, p.2) (refuses_last (inner_attributes c.args.list.now) (attributes_element (map attribute c.args.list.now) ∷ []) c.in_err-kept.field-0.0 w.bounded
    (refuses_alone (attributes_element (map attribute c.args.list.now)) c.in_err-kept.field-0.0
    (subst (λ (x : DerElement). RefusesToWrite x c.in_err-kept.field-0.0) w.is c.in_err-kept.ensures.kept)))

pub returns : goal.returns
returns c =
    let w = c.in_ok-tree.ensures in
    kept_or_refused c.args.list.now c.in_ok-kept.kept c.elem.result.is.0 c.read_at.result w.bounded (c.in_ok-kept.ensures.kept.1 ∙ w.is)
    c.elem.ensures c.read_at.ensures
