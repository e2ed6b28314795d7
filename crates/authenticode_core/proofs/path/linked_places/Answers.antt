use Rattle.std.proofs.lemmas.Result.{err_from_is_err_and}
use Rattle.authenticode_core.proofs.LinkedIndices.{linked_none, linked_all, unlinked, linked_on}
use Rattle.authenticode_core.proofs.path.linked_places.Goals as goal

pub loop-next-init : goal.loop-next-init
loop-next-init g c = λ bag all left. linked_none (g.S.Scheme.judge c.args.scheme.now) c.args.window.now bag c.args.checked.now all c.args.parents
    c.new-linking.result c.new-linking.ensures.0 c.new-linking.ensures.1 c.new-linking.ensures.2 left

pub returns-in_err-go_on : goal.returns-in_err-go_on
returns-in_err-go_on g c = λ bag all left.
    let p = err_from_is_err_and c.from_residual.result c.from_residual.ensures.1 in
    let so_far = c.loop-next.invariant bag all left in
    let next = c.in-Some.ensures.next bag so_far.rest so_far.left in
    rw (p.1, p.2) (unlinked (g.S.Scheme.judge c.args.scheme.now) c.args.window.now bag c.args.checked.now all c.loop-next.parents c.loop-next.linking so_far
    c.in-Some.next.place _ next.0 next.1 _ (c.in_err-go_on.ensures bag so_far.so_far next.1.stands))

pub loop-next-preserved : goal.loop-next-preserved
loop-next-preserved g c = λ bag all left.
    let so_far = c.loop-next.invariant bag all left in
    let next = c.in-Some.ensures.next bag so_far.rest so_far.left in
    linked_on (g.S.Scheme.judge c.args.scheme.now) c.args.window.now bag c.args.checked.now all c.loop-next.parents c.loop-next.linking so_far
    c.in-Some.next.place _ next.0 next.1 c.next.new.self _ next.2 (c.in_ok-go_on.ensures bag so_far.so_far next.1.stands)

pub returns : goal.returns
returns g c = λ bag all left.
    let so_far = c.loop-next.invariant bag all left in
    linked_all (g.S.Scheme.judge c.args.scheme.now) c.args.window.now bag c.args.checked.now all c.loop-next.parents c.loop-next.linking so_far
    c.into_places.result c.into_places.ensures (c.in_default.ensures.next bag so_far.rest so_far.left)
