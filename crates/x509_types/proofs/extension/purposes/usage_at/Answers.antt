use Rattle.x509_types.proofs.Held.{usage_held}
use Rattle.x509_types.proofs.extension.purposes.usage_at.Goals as goal

pub returns-in_err-octets : goal.returns-in_err-octets
returns-in_err-octets c = rw c.from_residual.ensures (λ element usage. c.in_err-octets.ensures usage.0 usage.1)

pub returns : goal.returns
returns c = usage_held _ _ _ _ c.in_ok-octets.ensures c.whole_element.ensures
