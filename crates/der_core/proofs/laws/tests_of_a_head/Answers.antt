use Rattle.std.proofs.Common.{ap, ◌∙◌}
use Rattle.der_core.specs.Head.{head_at}
use Rattle.der_core.proofs.Heads.{head_taken, framed_again}
use Rattle.der_core.proofs.laws.tests_of_a_head.Goals as goal

pub returns-clause-only_of_a_head : goal.returns-clause-only_of_a_head
returns-clause-only_of_a_head c = λ levels tag octets contents rest fits e. head_taken levels octets tag contents rest fits e

pub returns-clause-of_each_head : goal.returns-clause-of_each_head
returns-clause-of_each_head c = λ levels tag octets contents rest head. ap (head_at levels) head.parts
    ∙ framed_again levels tag contents rest head.some head.is_tag head.short
