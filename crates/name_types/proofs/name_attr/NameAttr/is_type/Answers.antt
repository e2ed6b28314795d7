use Rattle.name_types.proofs.AttributeTypes.{type_by_contents}
use Rattle.name_types.proofs.name_attr.NameAttr.is_type.Goals as goal
use Rattle.std.proofs.Common.{◌∙◌, sym}

pub returns : goal.returns
returns c =
    let ty = c.args.ty.now in
    let named = type_by_contents c.args.self ty.contents ty.formed in (
      λ same. named.0 (sym c.as_bytes.ensures ∙ c.is_same.ensures.0 same ∙ c.oid_contents.ensures),
      λ arcs. c.is_same.ensures.1 (c.as_bytes.ensures ∙ named.1 arcs ∙ sym c.oid_contents.ensures),
    )
