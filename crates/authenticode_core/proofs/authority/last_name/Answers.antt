use Rattle.x509_types.specs.CertificateView.{view_elements}
use Rattle.authenticode_core.proofs.LastAuthority.{named_all, named_on, none_named}
use Rattle.authenticode_core.proofs.authority.last_name.Goals as goal

pub loop-next-init : goal.loop-next-init
loop-next-init c = λ bag places before gives is. none_named bag before places c.args.certificates c.args.name.now gives is

pub loop-next-preserved : goal.loop-next-preserved
loop-next-preserved c = λ bag places before gives is.
    let so_far = c.loop-next.invariant bag places before gives is in
    let next = c.in-Some.ensures.next bag so_far.behind so_far.gives in
    let named = c.next_name-last.ensures so_far.so_far so_far.is in
    named_on bag before places c.loop-next.certificates c.next.new.self _ _ so_far c.in-Some.next.place (view_elements c.in-Some.next.certificate)
    next.0 next.1 next.2 named.0 named.1 named.2

pub returns : goal.returns
returns c = λ bag places before gives is.
    let so_far = c.loop-next.invariant bag places before gives is in
    named_all bag before places c.loop-next.certificates _ so_far (c.in_default.ensures.next bag so_far.behind so_far.gives)
