use Rattle.std.proofs.Common.{length}
use Rattle.trust_anchors.proofs.reading.+read_pool.Given as goal

abbrev pub decreases-read_pool : goal.decreases-read_pool
decreases-read_pool l = length l.octets.now
