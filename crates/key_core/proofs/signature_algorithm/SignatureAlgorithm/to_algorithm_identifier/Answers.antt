use Rattle.key_core.proofs.SignatureIdentifiers.{is_known-identifier}
use Rattle.key_core.proofs.signature_algorithm.SignatureAlgorithm.to_algorithm_identifier.Goals as goal

pub from_known-requires : goal.from_known-requires
from_known-requires c = is_known-identifier c.args.self c.in-Some.contents.now c.in-Some.ensures
