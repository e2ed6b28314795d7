use Rattle.ca_register.proofs.UsableCerts.{accepted_by, usable_by}
use Rattle.ca_register.proofs.counting.is_usable.Goals as goal

pub returns-clause-usable : goal.returns-clause-usable
returns-clause-usable g c =
    usable_by c.args.register.now.entries.items c.args.place c.args.date.now _ _ c.in-Some.ensures c.is_between.result c.is_between.ensures

pub returns-clause-accepted : goal.returns-clause-accepted
returns-clause-accepted g c = λ is.
    let register = c.args.register.now in
    accepted_by register.entries.items c.args.place c.args.date.now _ _ c.in-Some.ensures (g.S.Scheme.judge register.scheme)
    register.certificates.items is c.requires.within c.is_between.result c.is_between.ensures
