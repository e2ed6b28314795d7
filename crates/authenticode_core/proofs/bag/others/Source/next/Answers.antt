use Rattle.std.proofs.Common.{subst}
use Rattle.authenticode_core.specs.OthersCursor.{GivesPlaces}
use Rattle.authenticode_core.specs.declared.bag.others.Source.{Source}
use Rattle.authenticode_core.proofs.OtherSteps.{walk_steps, bag_steps}
use Rattle.authenticode_core.proofs.bag.others.Source.next.Goals as goal

pub returns-in-Walk-clause-next : goal.returns-in-Walk-clause-next
returns-in-Walk-clause-next c = λ bag places gives.
    walk_steps c.in-Walk.walk c.next.new.self bag places c.next.result (λ from subject looks. c.next.ensures.next bag from subject looks)
    (subst (λ (s : Source). GivesPlaces s bag places) c.in-Walk.is gives)

pub returns-in-Bag-clause-next : goal.returns-in-Bag-clause-next
returns-in-Bag-clause-next c = λ bag places gives.
    let step = c.next-in-Bag.ensures in
    bag_steps c.in-Bag.bag c.next-in-Bag.new.self bag places c.next-in-Bag.result step.place (λ s. step.stands bag s) (λ s. step.next bag s)
    (subst (λ (s : Source). GivesPlaces s bag places) c.in-Bag.is gives)
