use Rattle.std.proofs.Common.{rules}
use Rattle.x509_core.proofs.KeyIds.{same_keys}
use Rattle.x509_core.proofs.key_link.key_link.Goals as goal

pub returns-in_default : goal.returns-in_default
returns-in_default c = λ key named. absurd (c.in_default.ensures key named)

pub returns-then-is_same : goal.returns-then-is_same
returns-then-is_same c = same_keys _ _ _ _ c.in-Some.ensures c.in-Some-subject_key_identifier.ensures (c.is_same.ensures.0 (search rules))
