use Rattle.std.proofs.Common.{◌∙◌, ◌∷◌, []}
use Rattle.std.proofs.lemmas.Result.{err_from_is_err_and}
use Rattle.der_core.proofs.Inner.{refuses_before}
use Rattle.cms_types.proofs.Several.{not_kept, bounded_with}
use Rattle.cms_types.proofs.members.kept_of.Goals as goal

pub returns-in_err-tree : goal.returns-in_err-tree
returns-in_err-tree g c =
    let p = err_from_is_err_and c.from_residual.result c.from_residual.ensures.1 in
    rw (p.1, p.2) (refuses_before (g.T.Structure.inner c.args.value.now) (g.T.Structure.written c.args.value.now ∷ []) _ c.in_err-tree.ensures)

pub returns-in_err-from_tree : goal.returns-in_err-from_tree
returns-in_err-from_tree g c =
    let p = err_from_is_err_and c.from_residual-in_err-from_tree.result c.from_residual-in_err-from_tree.ensures.1 in
    let w = c.in_ok-tree.ensures in
    rw (p.1, p.2) (not_kept (g.T.Structure.inner c.args.value.now) (g.T.Structure.written c.args.value.now) _ _ w.0 w.2 c.in_err-from_tree.ensures.kept)

pub returns : goal.returns
returns g c =
    let w = c.in_ok-tree.ensures in
    let k = c.in_ok-from_tree.ensures.kept in
    (k.1 ∙ w.0, bounded_with (g.T.Structure.inner c.args.value.now) (g.T.Structure.written c.args.value.now) _ w.0 w.2 k.0)
