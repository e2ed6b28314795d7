use Rattle.std.proofs.Common.{ap, sym, ◌∙◌}
use Rattle.der_core.specs.Encoding.{encoding}
use Rattle.key_types.proofs.Parameters.{null_by_octets, null_octets}
use Rattle.key_types.proofs.key_kind.is_null.Goals as goal

pub returns : goal.returns
returns c =
    let is = c.args.elem.is.1 in (
      λ same. null_by_octets _ is.0 (sym is.1 ∙ c.is_same.ensures.0 same),
      λ null. c.is_same.ensures.1 (is.1 ∙ ap encoding null ∙ null_octets),
    )
