use Rattle.std.proofs.Common.{sym, ◌∙◌, rules}
use Rattle.std.proofs.lemmas.Grind.{merely}
use Rattle.cms_content.proofs.Contents.{by_fields, lies}
use Rattle.cms_content.proofs.content_view.ContentView.read.Goals as goal

pub returns-in_err-content_type : goal.returns-in_err-content_type
returns-in_err-content_type c =
    rw c.from_residual-in_err-content_type.ensures (λ info is. c.in_err-content_type.ensures _ (by_fields _ _ _ info c.in_ok-fields.ensures is).0)

pub invariant_of-result : goal.invariant_of-result
invariant_of-result c =
    let fit = c.has_shape.ensures.fits (search rules) in
    record { fits = merely (fit.0, sym (lies _ _ _ _ c.in_ok-fields.ensures c.in_ok-content_type.ensures) ∙ fit.1) }

pub returns : goal.returns
returns c =
    let fit = c.has_shape.ensures.fits (search rules) in
    record { is = lies _ _ _ _ c.in_ok-fields.ensures c.in_ok-content_type.ensures; value = fit.0; spelled = fit.1 }
