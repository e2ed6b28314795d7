use Rattle.std.proofs.Common.{arith}
use Rattle.authenticode_core.proofs.BagSteps.{counted_within}
use Rattle.authenticode_core.proofs.bag.Bag.of.Goals as goal
use Rattle.authenticode_core.proofs.bag.Bag.of.Goals.{in-Some, in-None}

pub invariant_of-result : goal.invariant_of-result
invariant_of-result c = record {
  counted = elim c.match-certificates.branch [
    | in-Some w ↦ rw w.members-is (counted_within w.in-Some.elem w.within-members.result w.within-members.ensures)
    | in-None w ↦ rw w.members-is (omega arith)
  ];
}
