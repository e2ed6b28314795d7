use Rattle.key_core.proofs.Algorithms.{curve_of_parameters}
use Rattle.key_core.proofs.private_key.pkcs8.curve_octets.Goals as goal

pub returns-in-Some : goal.returns-in-Some
returns-in-Some c = curve_of_parameters (λ x. x.now) _ c.in-Some.parameters.now _ c.in-Some.ensures c.elem.ensures _ c.identifier_at.ensures
