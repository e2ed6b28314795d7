use Rattle.std.proofs.Common.{[], ◌∷◌}
use Rattle.std.proofs.lemmas.Result.{MatchResult-weaker}
use Rattle.key_core.proofs.SmallRefusals.{half_or_memory}
use Rattle.ca_register.proofs.keys.public_key_of.Goals as goal

pub returns : goal.returns
returns c =
    MatchResult-weaker c.to_public_key.result c.to_public_key.ensures.answer
    (λ own half. (c.in_ok-private.private, record { private = c.in_ok-private.ensures; public = half }))
    (λ e refused. half_or_memory (c.args.number ∷ []) c.in_ok-private.private e c.in_ok-private.ensures refused)
