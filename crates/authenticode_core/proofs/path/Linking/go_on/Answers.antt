use Rattle.std.proofs.Common.{refl}
use Rattle.std.proofs.lemmas.Result.{err_from_is_err_and}
use Rattle.authenticode_core.proofs.LinkedIndices.{broken_next, linked_next, out_of_memory}
use Rattle.authenticode_core.proofs.path.Linking.go_on.Goals as goal

pub returns-in_err-parent : goal.returns-in_err-parent
returns-in_err-parent g c = λ bag so_far stands.
    let p = err_from_is_err_and c.from_residual.result c.from_residual.ensures.1 in
    rw (p.1, p.2) (broken_next (g.S.Scheme.judge c.args.scheme.now) c.args.window.now bag c.args.checked.now c.args.self.now _ c.args.next.now.place
    c.nearest.result.now so_far c.nearest.ensures stands _ (c.in_err-parent.ensures _ so_far.counted))

pub returns-in_err-push : goal.returns-in_err-push
returns-in_err-push g c = λ bag so_far stands.
    let p = err_from_is_err_and c.from_residual-in_err-push.result c.from_residual-in_err-push.ensures.1 in
    out_of_memory _ _ c.from_residual-in_err-push.result _ p.1 p.2

pub returns : goal.returns
returns g c = λ bag so_far stands. (
  linked_next (g.S.Scheme.judge c.args.scheme.now) c.args.window.now bag c.args.checked.now c.args.self.now _ c.args.next.now.place c.nearest.result.now so_far
      c.nearest.ensures stands _ c.in_ok-parent.parent
      (c.in_ok-parent.ensures _ so_far.counted) c.in_ok-push.ensures.ok refl c.saturating_add-self.ensures,
  c.in_ok-push.ensures.ok,
)
