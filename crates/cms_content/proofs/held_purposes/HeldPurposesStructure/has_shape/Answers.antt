use Rattle.std.proofs.lemmas.Grind.{merely}
use Rattle.cms_content.proofs.CtlHeld.{no_purposes}
use Rattle.cms_content.proofs.held_purposes.HeldPurposesStructure.has_shape.Goals as goal

pub returns-in-Some-clause-fits : goal.returns-in-Some-clause-fits
returns-in-Some-clause-fits c = λ w. let fit = c.has_within.ensures.fits w in
    (record { octets = c.in-Some.octets.now; purposes = fit.0; are = merely fit.1 }, c.in-Some.ensures)

pub returns-in-Some-clause-unfit : goal.returns-in-Some-clause-unfit
returns-in-Some-clause-unfit c = λ none v is. no_purposes _ _ v c.in-Some.ensures is (c.has_within.ensures.unfit none)
