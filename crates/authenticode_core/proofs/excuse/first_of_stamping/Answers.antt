use Rattle.std.proofs.Common.{refl}
use Rattle.cms_types.specs.SignedView.{data_elements}
use Rattle.authenticode_core.proofs.StampSteps.{leads_or_none}
use Rattle.authenticode_core.proofs.excuse.first_of_stamping.Goals as goal

pub returns : goal.returns
returns c =
    let t = data_elements c.args.token.now in
    let bag = c.decide_bag.ensures in
    leads_or_none c.next.result _ t bag.0 c.certificate_bag.result.place c.certificate_bag.ensures.place bag.1
    ((c.if-not-names_time_stamping.ensures bag.0 bag.1).0 refl) c.next.ensures.place (c.next.ensures.next bag.0 (c.certificate_bag.ensures.stands bag.0 bag.1))
