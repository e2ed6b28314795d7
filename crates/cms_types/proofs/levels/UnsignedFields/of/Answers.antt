use Rattle.std.proofs.Common.{◌∷◌, [], ap, ◌∙◌, rules}
use Rattle.der_core.specs.DerElement.{DerElement}
use Rattle.der_core.specs.Elements.{sequence, set}
use Rattle.cms_types.proofs.levels.UnsignedFields.of.Goals as goal

pub returns : goal.returns
returns c =
    let ty = c.in_ok-ty.ty.is.0 in
    let values = c.in_ok-values.values.are.0 in
    let is = c.in_ok-ty.ensures ∙ ap (λ (v : DerElement). sequence (ty ∷ v ∷ [])) c.in_ok-values.ensures in (
      record {
        ty = record { contents = c.in_ok-contents.contents.now; formed = c.is_content.ensures.formed.0 (search rules) };
        is = is ∙ ap (λ (t : DerElement). sequence (t ∷ set values ∷ [])) c.in_ok-contents.ensures;
        named = c.named-kind.ensures;
      },
      is,
    )
