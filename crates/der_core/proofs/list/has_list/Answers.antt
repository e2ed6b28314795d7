use Rattle.std.proofs.Common.{subst}
use Rattle.der_core.specs.Each.{AreEach}
use Rattle.der_core.proofs.Parts.{same_kids}
use Rattle.der_core.proofs.list.has_list.Goals as goal

pub returns-in-Some-clause-fits : goal.returns-in-Some-clause-fits
returns-in-Some-clause-fits g c = λ w. let fit = c.has_each.ensures.fits w in
    (fit.0, record { kids = c.in-Some.kids.are.0; holds = c.in-Some.ensures; each = fit.1 })

pub returns-in-Some-clause-unfit : goal.returns-in-Some-clause-unfit
returns-in-Some-clause-unfit g c = λ no values list.
    c.has_each.ensures.unfit no values
    (subst (λ ks. AreEach g.T.Structure.spells ks values) (same_kids _ _ _ list.kids _ list.holds c.in-Some.ensures) list.each)
