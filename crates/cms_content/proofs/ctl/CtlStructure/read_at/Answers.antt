use Rattle.std.proofs.lemmas.Result.{err_from_is_err_and}
use Rattle.der_core.proofs.Parts.{refuses_as}
use Rattle.cms_content.proofs.ctl.CtlStructure.read_at.Goals as goal

pub returns-in_err-entries : goal.returns-in_err-entries
returns-in_err-entries c =
    let p = err_from_is_err_and c.from_residual.result c.from_residual.ensures.1 in
    let fit = c.in-Some.ensures.0 in
    rw (p.1, p.2) (refuses_as _ _ _ (λ none v is. none fit.0 fit.1) c.in_err-entries.ensures)
