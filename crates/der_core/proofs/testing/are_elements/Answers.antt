use Rattle.std.proofs.Common.{◌≡◌, ◌<◌, ◌∙◌, List, ℕ, length, take, subst, arith}
use Rattle.std.proofs.lemmas.Bool.{iff_false}
use Rattle.der_core.specs.Head.{HasHead}
use Rattle.der_core.proofs.Outward.{GoesOn, ended, after_last, current_is, contents_and_others, after_leaf, into_branch}
use Rattle.der_core.proofs.testing.are_elements.Goals as goal

-- the head that was read is that of the current octets
of_current : {octets rest lengths front : List ℕ} {left n tag : ℕ} {contents others : List ℕ} (on : GoesOn octets rest left lengths n) → front ≡ take left rest
    → HasHead 64 front tag contents others → HasHead 64 on.current tag contents others
of_current {tag = tag} {contents = contents} {others = others} on front head =
    subst (λ (o : List ℕ). HasHead 64 o tag contents others) (front ∙ current_is on) head

pub returns-then-outer-eq0 : goal.returns-then-outer-eq0
returns-then-outer-eq0 c = λ _. ended c.loop-left.invariant (omega (arith, c.if-left-eq0.true)) (omega (arith, c.if-outer-eq0.true))

pub loop-left-preserved-then-left-eq0 : goal.loop-left-preserved-then-left-eq0
loop-left-preserved-then-left-eq0 c = after_last c.loop-left.invariant (omega (arith, c.if-left-eq0.true)) (omega (arith, c.if-outer-eq0.false))

pub split_at-requires-then-not-is_constructed : goal.split_at-requires-then-not-is_constructed
split_at-requires-then-not-is_constructed c =
    let on = c.loop-left.invariant in
    let head = of_current on c.split_at.ensures.front c.in-Some.ensures.0 in
    rw c.split_at-in-loop-left.ensures.back (contents_and_others on head).1

pub loop-left-smaller-then-not-is_constructed : goal.loop-left-smaller-then-not-is_constructed
loop-left-smaller-then-not-is_constructed c =
    let on = c.loop-left.invariant in
    let head = of_current on c.split_at.ensures.front c.in-Some.ensures.0 in
    let shorter : length c.split_at-in-loop-left.result.1.now < length c.loop-left.rest.now =
    rw c.split_at-in-loop-left.ensures.back (contents_and_others on head).0 in
    omega (arith, shorter, c.split_at-then-not-is_constructed.ensures.back_len)

pub loop-left-preserved-then-not-is_constructed : goal.loop-left-preserved-then-not-is_constructed
loop-left-preserved-then-not-is_constructed c =
    let on = c.loop-left.invariant in
    let head = of_current on c.split_at.ensures.front c.in-Some.ensures.0 in
    rw (c.split_at-then-not-is_constructed.ensures.back, c.split_at-in-loop-left.ensures.back)
    (after_leaf on head (iff_false c.in-Some.ensures.1 c.if-not-is_constructed.true))

pub loop-left-smaller : goal.loop-left-smaller
loop-left-smaller c =
    let on = c.loop-left.invariant in
    let head = of_current on c.split_at.ensures.front c.in-Some.ensures.0 in
    let shorter : length c.split_at-in-loop-left.result.1.now < length c.loop-left.rest.now =
    rw c.split_at-in-loop-left.ensures.back (contents_and_others on head).0 in
    omega (arith, shorter)

pub loop-left-preserved : goal.loop-left-preserved
loop-left-preserved c =
    let on = c.loop-left.invariant in
    let head = of_current on c.split_at.ensures.front c.in-Some.ensures.0 in
    rw c.split_at-in-loop-left.ensures.back
    (into_branch on head (c.in-Some.ensures.1.0 c.if-not-is_constructed.false) (omega (arith, c.if-outer-lt-MOST_OUTER.true)))
