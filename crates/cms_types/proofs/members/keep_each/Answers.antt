use Rattle.std.proofs.lemmas.Result.{err_from_is_err_and}
use Rattle.cms_types.proofs.Several.{refused_among, kept_more}
use Rattle.cms_types.proofs.members.keep_each.Goals as goal

pub returns-in_err-kept_of : goal.returns-in_err-kept_of
returns-in_err-kept_of g c =
    let p = err_from_is_err_and c.from_residual.result c.from_residual.ensures.1 in
    rw (p.1, p.2)
    (refused_among g.T.Structure.inner g.T.Structure.written _ _ _ _ _ _ c.loop-value.invariant c.in-Some.ensures.cases.0 c.in_err-kept_of.ensures)

pub loop-value-preserved : goal.loop-value-preserved
loop-value-preserved g c =
    let kept = c.in_ok-kept_of.ensures in
    kept_more g.T.Structure.inner g.T.Structure.written _ _ _ _ _ _ _ c.loop-value.invariant c.in-Some.ensures.cases.0 kept.0 kept.1 c.in_ok-push.ensures.ok
