use Rattle.std.proofs.Common.{arith}
use Rattle.der_core.proofs.Heads.{head_taken}
use Rattle.der_core.proofs.header.head_of.Goals as goal

pub returns-in-Ok : goal.returns-in-Ok
returns-in-Ok c =
    let head = c.in-Ok.head in (
      c.in-Ok.ensures,
      head_taken c.args.levels c.args.octets.now head.tag head.contents.now head.rest.now (λ i. omega (arith, c.type_inv.octets i)) c.in-Ok.ensures,
    )
