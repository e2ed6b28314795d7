use Rattle.authenticode_core.proofs.LinkedIndices.{vouched}
use Rattle.authenticode_core.proofs.path.linked_path.Goals as goal

pub returns : goal.returns
returns g c = λ bag is.
    let path = c.on_path-issuers.ensures bag (c.certificate_bag.ensures.stands bag is) c.certificate_bag.ensures.place in
    vouched (g.S.Scheme.judge c.args.scheme.now) c.args.window.now bag c.args.signer _ path.0 c.linked_places.result c.view.ensures.elements path.1
    (c.linked_places.ensures bag path.0 path.2)
