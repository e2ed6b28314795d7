use Rattle.std.proofs.lemmas.Result.{err_from_is_err_and}
use Rattle.authenticode_core.proofs.LinkedIndices.{linked_token, unlinked_token}
use Rattle.authenticode_core.proofs.path.expect_linked_token.Goals as goal

pub returns-in_err-linked_places : goal.returns-in_err-linked_places
returns-in_err-linked_places g c = λ bag is stands.
    let p = err_from_is_err_and c.from_residual.result c.from_residual.ensures.1 in
    let others = c.in_bag-others.ensures bag (c.certificate_bag.ensures.stands bag is) c.certificate_bag.ensures.place in
    rw (p.1, p.2) (unlinked_token (g.S.Scheme.judge c.args.scheme.now) c.any_time.result bag c.args.first.now _ others.0 c.any_time.ensures
    c.view.ensures.elements stands others.1 _ (c.in_err-linked_places.ensures bag others.0 others.2))

pub returns : goal.returns
returns g c = λ bag is stands.
    let others = c.in_bag-others.ensures bag (c.certificate_bag.ensures.stands bag is) c.certificate_bag.ensures.place in
    linked_token (g.S.Scheme.judge c.args.scheme.now) c.any_time.result bag c.args.first.now _ others.0 c.any_time.ensures c.view.ensures.elements stands
    others.1 (c.in_ok-linked_places.ensures bag others.0 others.2).1
