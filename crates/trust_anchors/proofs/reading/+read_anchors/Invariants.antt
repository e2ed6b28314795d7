use Rattle.std.proofs.Common.{length}
use Rattle.trust_anchors.proofs.reading.+read_anchors.Given as goal

abbrev pub decreases-read_anchors : goal.decreases-read_anchors
decreases-read_anchors l = length l.others.now
