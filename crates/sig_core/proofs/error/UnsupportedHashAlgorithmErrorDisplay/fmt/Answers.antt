use Rattle.std.proofs.Common.{append_assoc}
use Rattle.sig_core.proofs.error.UnsupportedHashAlgorithmErrorDisplay.fmt.Goals as goal

pub returns-clause-writes : goal.returns-clause-writes
returns-clause-writes g c plain ok =
    let written = rw c.name.ensures at c.write.ensures.writes in
    simp append_assoc (written plain ok)
