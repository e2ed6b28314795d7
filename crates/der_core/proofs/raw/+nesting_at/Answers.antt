use Rattle.std.proofs.Common.{arith, ap, sym}
use Rattle.der_core.specs.DerElement.{row}
use Rattle.der_core.specs.Encoding.{deepest}
use Rattle.der_core.proofs.Nesting.{nesting-kids}
use Rattle.der_core.proofs.raw.+nesting_at.Goals as goal

pub nesting_at-requires : goal.nesting_at-requires
nesting_at-requires t c =
    let all = nesting-kids _ _ (sym c.in-Some.ensures) in
    let next = ap (λ kids. deepest (row kids)) c.in-Some-next.ensures in
    (omega (arith, all, next, c.loop-kid.invariant, c.decreases), tt)

pub overflow_add-result : goal.overflow_add-result
overflow_add-result t c =
    let all = nesting-kids _ _ (sym c.in-Some.ensures) in
    omega (arith, all, c.loop-kid.invariant, c.args.elem.is.1.0.nested)

pub returns : goal.returns
returns t c =
    let all = nesting-kids _ _ (sym c.in-Some.ensures) in
    let none = ap (λ kids. deepest (row kids)) c.in_default-next.ensures.0 in
    omega (arith, all, none, c.loop-kid.invariant)
