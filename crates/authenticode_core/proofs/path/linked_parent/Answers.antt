use Rattle.std.proofs.lemmas.Result.{err_from_is_err_and}
use Rattle.authenticode_core.proofs.LinkedIndices.{no_link}
use Rattle.authenticode_core.proofs.path.linked_parent.Goals as goal

pub returns-in_err-expect_link : goal.returns-in_err-expect_link
returns-in_err-expect_link g c = λ count stands.
    let p = err_from_is_err_and c.from_residual-in_err-expect_link.result c.from_residual-in_err-expect_link.ensures.1 in
    rw (p.1, p.2) (no_link (g.S.Scheme.judge c.args.scheme.now) c.args.window.now count c.args.child.now _ c.in_ok-parent.parent _ c.in_ok-parent.ensures
    (c.in_err-expect_link.ensures count stands))
