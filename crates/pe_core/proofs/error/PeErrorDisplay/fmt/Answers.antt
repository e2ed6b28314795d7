use Rattle.std.proofs.Common.{append_assoc}
use Rattle.pe_core.proofs.error.PeErrorDisplay.fmt.Goals as goal

pub returns-in-TableOutside-clause-writes : goal.returns-in-TableOutside-clause-writes
returns-in-TableOutside-clause-writes g c plain ok =
    rw c.in-TableOutside.is (simp append_assoc (c.write-in-TableOutside.ensures.writes plain ok))
