use Rattle.x509_types.proofs.Held.{usage_holds}
use Rattle.x509_types.proofs.extension.purposes.is_usage_for.Goals as goal

pub returns-in-Some : goal.returns-in-Some
returns-in-Some c = usage_holds _ _ _ _ c.in-Some.ensures c.holds_purpose.ensures

pub returns-in-None : goal.returns-in-None
returns-in-None c = (λ w. absurd cc, λ held. absurd (c.in-None.ensures held.0 held.1))
