use Rattle.std.proofs.Common.{arith, rules, ap}
use Rattle.der_core.specs.Encoding.{nesting}
use Rattle.der_core.proofs.Nesting.{nesting_is_positive, nesting-kids, deepest-drop, deepest-drop_all}
use Rattle.der_core.proofs.writing.+is_nested_within.Goals as goal

pub returns-then-levels-eq0 : goal.returns-then-levels-eq0
returns-then-levels-eq0 t c =
    (λ w. search rules, λ h. absurd (omega (arith, nesting_is_positive c.args.tree.now)))

pub returns-then-not-is_nested_within : goal.returns-then-not-is_nested_within
returns-then-not-is_nested_within t c =
    let all = nesting-kids c.args.tree.now c.in-Some.kids.now c.in-Some.ensures in
    let next = deepest-drop c.in-Some.kids.now c.loop-kid.kid-index c.kid-item.result c.loop-kid-test.true in
    let kid = ap nesting c.kid-item.is in
    (λ w. search rules, λ h. c.if-not-is_nested_within.ensures.1 (omega (arith, c.loop-kid.invariant.1.0, c.loop-kid.invariant.1.1)))

pub returns : goal.returns
returns t c =
    let all = nesting-kids c.args.tree.now c.in-Some.kids.now c.in-Some.ensures in
    let none = deepest-drop_all c.in-Some.kids.now c.loop-kid.kid-index c.loop-kid-test.false in
    (λ w. omega (arith, c.loop-kid.invariant.1.1), λ h. search rules)
