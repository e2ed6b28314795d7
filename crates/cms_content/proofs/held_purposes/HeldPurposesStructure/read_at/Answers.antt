use Rattle.std.proofs.lemmas.Result.{err_from_is_err_and}
use Rattle.der_core.proofs.Parts.{refuses_as}
use Rattle.cms_content.proofs.CtlHeld.{no_purposes}
use Rattle.cms_content.proofs.held_purposes.HeldPurposesStructure.read_at.Goals as goal

pub returns-in_err-purposes : goal.returns-in_err-purposes
returns-in_err-purposes c =
    let p = err_from_is_err_and c.from_residual.result c.from_residual.ensures.1 in
    rw (p.1, p.2) (refuses_as _ _ _ (λ none v is. no_purposes _ _ v c.in-Some.ensures is none) c.in_err-purposes.ensures)
