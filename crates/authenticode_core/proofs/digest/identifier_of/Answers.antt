use Rattle.authenticode_core.proofs.DigestNames.{of_element}
use Rattle.authenticode_core.proofs.digest.identifier_of.Goals as goal

pub returns : goal.returns
returns c = λ element kept. of_element _ _ _ _ element c.in_ok-elem.ensures kept c.first_identifier.ensures
