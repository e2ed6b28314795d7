use Rattle.name_types.proofs.TypeDescriptors.{email_by_contents}
use Rattle.name_types.proofs.email.is_email_address.Goals as goal
use Rattle.std.proofs.Common.{◌∙◌, sym}

pub returns : goal.returns
returns c =
    let email = email_by_contents c.args.ty.now.contents c.args.ty.now.formed in
    (λ same. email.0 (sym c.as_bytes.ensures ∙ c.is_same.ensures.0 same), λ arcs. c.is_same.ensures.1 (c.as_bytes.ensures ∙ email.1 arcs))
