use Rattle.std.proofs.Common.{refl}
use Rattle.x509_types.specs.CertificateView.{view_elements}
use Rattle.authenticode_core.proofs.LastAuthority.{name_of_all}
use Rattle.authenticode_core.proofs.authority.authority_name.Goals as goal

pub returns : goal.returns
returns c = λ bag places gives.
    let next = c.in_ok-first.ensures.next bag places gives in
    let e = view_elements c.in_ok-first.first.certificate in
    let named = c.last_name.ensures bag next.0 e.tbs.issuer next.2 c.issuer.ensures in
    (named.0, name_of_all bag places c.in_ok-first.first.place e next.0 named.0 next.1 named.1, named.2)
