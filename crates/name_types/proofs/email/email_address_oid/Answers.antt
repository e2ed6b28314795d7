use Rattle.name_types.proofs.TypeDescriptors.{email_by_contents}
use Rattle.name_types.proofs.email.email_address_oid.Goals as goal
use Rattle.std.proofs.lemmas.Result.{IfOk-weaker}

pub returns : goal.returns
returns c =
    IfOk-weaker c.from_known.result _ _ (λ identifier contents. (email_by_contents identifier.contents identifier.formed).0 contents) c.from_known.ensures
