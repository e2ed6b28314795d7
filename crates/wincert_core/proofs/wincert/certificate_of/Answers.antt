use Rattle.std.proofs.Common.{arith, refl}
use Rattle.std.proofs.lemmas.Result.{err_from_is_err_and}
use Rattle.wincert_core.proofs.Spelled.{begins, not_refused, refuses_without_memory}
use Rattle.wincert_core.proofs.wincert.certificate_of.Goals as goal

pub returns-in_err-header-clause-never_memory : goal.returns-in_err-header-clause-never_memory
returns-in_err-header-clause-never_memory c =
    let exit = err_from_is_err_and c.from_residual.result c.from_residual.ensures.1 in
    λ e. refuses_without_memory c.args.bytes.now (cc (exit.1, exit.2, c.in_err-header.ensures.refused))

pub returns-in_err-header-clause-only : goal.returns-in_err-header-clause-only
returns-in_err-header-clause-only c =
    λ w front. absurd (cc (not_refused c.args.bytes.now w front, c.in_err-header.ensures.refused))

pub returns-clause-spelled : goal.returns-clause-spelled
returns-clause-spelled c =
    let fields = c.in_ok-header.ensures.fields in
    let bounds = c.in_ok-header.ensures.accepted in
    (_, begins c.args.bytes.now (λ i. omega (arith, c.type_inv.bytes i)) _ _ _ fields.0 fields.1 fields.2 bounds.1 bounds.2 c.in_ok-header.ensures.short, refl)
