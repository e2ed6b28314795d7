use Rattle.std.proofs.Common.{arith}
use Rattle.wincert_core.proofs.Spelled.{begins, not_refused}
use Rattle.wincert_core.proofs.wincert.WinCertificate.decode.Goals as goal

pub returns-clause-spelled : goal.returns-clause-spelled
returns-clause-spelled c =
    let fields = c.in_ok-header.ensures.fields in
    let bounds = c.in_ok-header.ensures.accepted in
    rw c.in_ok-certificate.ensures.items
    (begins c.args.bytes.now (λ i. omega (arith, c.type_inv.bytes i)) _ _ _ fields.0 fields.1 fields.2 bounds.1 bounds.2 c.in_ok-header.ensures.short)

pub returns-in_err-header-clause-only : goal.returns-in_err-header-clause-only
returns-in_err-header-clause-only c =
    λ w begins_with. absurd (cc (not_refused c.args.bytes.now w begins_with, c.in_err-header.ensures.refused))
