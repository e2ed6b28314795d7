use Rattle.authenticode_core.proofs.StampSteps.{named_or_not}
use Rattle.authenticode_core.proofs.excuse.names_time_stamping.Goals as goal

pub returns : goal.returns
returns c = λ bag is.
    named_or_not c.next_wanted.result _ bag _ c.is_some.result c.certificate_bag-bag.ensures.place
    (c.next_wanted.ensures.least bag (c.certificate_bag-bag.ensures.stands bag is)) c.is_some.ensures
