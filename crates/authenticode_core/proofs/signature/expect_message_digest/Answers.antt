use Rattle.std.proofs.Common.{inl, refl}
use Rattle.authenticode_core.proofs.signature.expect_message_digest.Goals as goal

pub returns-in_default : goal.returns-in_default
returns-in_default c = λ d are. inl (inl (c.in_default.ensures, refl))
