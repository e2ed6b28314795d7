use Rattle.pe_core.proofs.Parts.{bound_in_parts}
use Rattle.pe_core.proofs.laws.bound_octets_are_parts.Goals as goal

pub returns : goal.returns
returns c = bound_in_parts
