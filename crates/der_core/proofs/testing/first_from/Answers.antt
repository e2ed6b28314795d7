use Rattle.std.proofs.Common.{rules}
use Rattle.std.proofs.lemmas.Result.{err_from_is_err_and}
use Rattle.der_core.proofs.Faults.{refused_first}
use Rattle.der_core.proofs.InOctets.{first_elem, one_alone, not_none}
use Rattle.der_core.proofs.testing.first_from.Goals as goal

pub returns-in_err-rest : goal.returns-in_err-rest
returns-in_err-rest c =
    let p = err_from_is_err_and c.from_residual.result c.from_residual.ensures.1 in
    rw (p.1, p.2) (refused_first c.args.at c.args.bytes.now c.in_err-rest.field-0.0 c.in_err-rest.ensures)

pub invariant_of-one : goal.invariant_of-one
invariant_of-one c =
    let e = c.in_ok-rest.ensures in
    record { are = one_alone c.args.bytes.now c.in_ok-rest.rest.now _ e.0 e.1 e.2 c.split_at.ensures.front }

pub unreachable-requires : goal.unreachable-requires
unreachable-requires c =
    let e = c.in_ok-rest.ensures in
    not_none c.args.bytes.now c.in_ok-rest.rest.now _ e.0 _ (search rules) e.2 c.split_at.ensures.front c.in-None.ensures.0

pub returns : goal.returns
returns c =
    let e = c.in_ok-rest.ensures in
    first_elem c.args.bytes.now c.in_ok-rest.rest.now _ _ _ _ e.0 _ (search rules) _ c.in-Some.elem.is.1 _ e.1 e.2 c.split_at.ensures.front c.in-Some.ensures
