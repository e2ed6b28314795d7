use Rattle.std.proofs.Common.{◌∙◌}
use Rattle.authenticode_signature.proofs.Members.{is_member, no_member}
use Rattle.authenticode_signature.proofs.bag.certificate_at.Goals as goal

pub returns-in_default : goal.returns-in_default
returns-in_default c = no_member _ _ c.elem.ensures c.in_default.ensures

pub returns-in-Ok : goal.returns-in-Ok
returns-in-Ok c =
    is_member c.args.element.now.element _ c.in-Some._view c.in-Ok.certificate c.args.element.now.der c.elem.ensures c.in-Some.ensures
    (c.in-Ok.ensures.kept ∙ c.as_bytes.ensures)
