use Rattle.std.proofs.Common.{refl}
use Rattle.std.proofs.lemmas.Grind.{merely}
use Rattle.cms_content.proofs.CtlFields.{no_list}
use Rattle.cms_content.proofs.ctl.CtlStructure.has_shape.Goals as goal

pub returns-in-Some-clause-fits : goal.returns-in-Some-clause-fits
returns-in-Some-clause-fits c = λ w.
    let made = c.in-Some.ensures in
    let fit = made.0 in
    (record { element = record { element = c.args.elem.is.0; der = c.args.elem.is.1.0 }; entries = fit.0; are = merely (made.1 fit.0 fit.1) }, refl)

pub returns-in-None-clause-unfit : goal.returns-in-None-clause-unfit
returns-in-None-clause-unfit c = λ no v is. no_list _ v is c.in-None.ensures
