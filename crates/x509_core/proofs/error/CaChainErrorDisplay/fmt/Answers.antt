use Rattle.std.proofs.Common.{append_assoc}
use Rattle.x509_core.proofs.error.CaChainErrorDisplay.fmt.Goals as goal

pub returns-in-TooDeep-clause-writes : goal.returns-in-TooDeep-clause-writes
returns-in-TooDeep-clause-writes g c plain ok = rw c.in-TooDeep.is (simp append_assoc (c.write.ensures.writes plain ok))
