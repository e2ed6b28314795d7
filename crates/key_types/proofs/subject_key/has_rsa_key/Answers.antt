use Rattle.key_types.proofs.Keys.{rsa_in_bits, rsa_of_bits}
use Rattle.key_types.proofs.subject_key.has_rsa_key.Goals as goal

pub returns-in-Some-clause-fits : goal.returns-in-Some-clause-fits
returns-in-Some-clause-fits c = λ w. let fit = c.has_within.ensures.fits w in (fit.0, rsa_in_bits _ _ fit.0 c.in-Some.ensures fit.1)

pub returns-in-Some-clause-unfit : goal.returns-in-Some-clause-unfit
returns-in-Some-clause-unfit c = λ no key is. c.has_within.ensures.unfit no key (rsa_of_bits _ _ key c.in-Some.ensures is)
