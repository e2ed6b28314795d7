use Rattle.std.proofs.lemmas.Result.{err_from_is_err_and}
use Rattle.der_core.proofs.Several.{written_more, written_not}
use Rattle.der_core.proofs.list.write_each.Goals as goal

pub returns-in_err-write : goal.returns-in_err-write
returns-in_err-write g c =
    let p = err_from_is_err_and c.from_residual.result c.from_residual.ensures.1 in
    rw (p.1, p.2) (written_not g.T.Structure.written g.T.Structure.inner _ _ _ _ _ _ c.loop-value.invariant c.in-Some.ensures.cases.0 c.in_err-write.ensures)

pub loop-value-preserved : goal.loop-value-preserved
loop-value-preserved g c =
    let w = c.in_ok-write.ensures in
    written_more g.T.Structure.written g.T.Structure.inner _ _ _ _ _ _ _ c.loop-value.invariant c.in-Some.ensures.cases.0 w.0 w.2 c.in_ok-push.ensures.ok
