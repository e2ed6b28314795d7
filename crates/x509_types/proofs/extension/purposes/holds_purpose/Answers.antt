use Rattle.der_core.specs.DerElement.{row}
use Rattle.x509_types.proofs.Held.{purposes_held}
use Rattle.x509_types.proofs.extension.purposes.holds_purpose.Goals as goal

pub returns-in-Some : goal.returns-in-Some
returns-in-Some c = purposes_held _ _ _ _ c.in-Some.ensures c.has_identifier.ensures

pub returns-in-None : goal.returns-in-None
returns-in-None c = (λ w. absurd cc, λ holds. absurd (c.in-None.ensures (row holds.0) holds.1))
