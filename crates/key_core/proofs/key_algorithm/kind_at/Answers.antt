use Rattle.std.proofs.Common.{rules}
use Rattle.key_core.proofs.Algorithms.{names_at}
use Rattle.key_core.proofs.key_algorithm.kind_at.Goals as goal

pub returns : goal.returns
returns c =
    let fit = c.has_shape.ensures.fits (search rules) in
    (fit.0, fit.1, names_at _ _ _ _ _ _ fit.0 c.in_ok-kids.ensures c.in_ok-next.ensures c.in_ok-oid.ensures fit.1 c.in_ok-named.ensures)
