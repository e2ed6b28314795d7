use Rattle.std.proofs.lemmas.Result.{err_from_is_err_and}
use Rattle.der_core.specs.Each.{AreEach}
use Rattle.der_core.proofs.Parts.{refuses_as}
use Rattle.der_core.proofs.Several.{first_more, first_without}
use Rattle.der_core.proofs.list.read_each.Goals as goal

pub returns-in_err-read_at : goal.returns-in_err-read_at
returns-in_err-read_at g c =
    let p = err_from_is_err_and c.from_residual-in_err-read_at.result c.from_residual-in_err-read_at.ensures.1 in
    rw (p.1, p.2) (refuses_as (g.T.Structure.spells c.in-Some.kid.is.0) (AreEach g.T.Structure.spells c.args.kids.are.0) _
    (λ none values each. first_without g.T.Structure.spells _ _ _ _ values _ c.loop-kid.invariant c.in-Some.ensures none each)
    c.in_err-read_at.ensures)

pub loop-kid-preserved : goal.loop-kid-preserved
loop-kid-preserved g c =
    first_more g.T.Structure.spells _ _ _ _ _ _ _ c.loop-kid.invariant c.in-Some.ensures c.in_ok-read_at.ensures c.in_ok-push.ensures.ok
