use Rattle.std.proofs.Common.{ap}
use Rattle.authenticode_core.specs.LeftMembers.{left_members}
use Rattle.authenticode_core.proofs.IndexSteps.{ended, moves}
use Rattle.authenticode_core.proofs.bag.Bag.next.Goals as goal

pub returns-in_err-elem-clause-next : goal.returns-in_err-elem-clause-next
returns-in_err-elem-clause-next c =
    rw c.from_residual-in_err-elem.ensures
    (λ bag s. ended c.args.self.now c.in_ok-members.members.are.0 bag (ap left_members c.in_ok-members.was) c.in_err-elem.ensures s)

pub returns-clause-stands : goal.returns-clause-stands
returns-clause-stands c = λ bag s.
    let m = moves c.args.self.now _ _ _ bag (ap left_members c.in_ok-members.was) c.in_ok-elem.ensures.1 s in
    record { before = m.before; behind = m.behind; are = m.are; placed = m.placed; left = m.others }

pub returns-clause-next : goal.returns-clause-next
returns-clause-next c = λ bag s. (moves c.args.self.now _ _ _ bag (ap left_members c.in_ok-members.was) c.in_ok-elem.ensures.1 s).stands
