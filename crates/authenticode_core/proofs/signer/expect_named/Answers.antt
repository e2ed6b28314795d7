use Rattle.cms_types.specs.SignedView.{data_elements}
use Rattle.cms_types.specs.SignerView.{signer_elements_at}
use Rattle.x509_types.specs.CertificateView.{view_elements}
use Rattle.authenticode_core.proofs.KnownSigner.{named_by_name, some_known, some_named, stands_known}
use Rattle.authenticode_core.proofs.signer.expect_named.Goals as goal

pub returns-in_default : goal.returns-in_default
returns-in_default c = c.in_ok-named.ensures.has

pub unreachable-requires : goal.unreachable-requires
unreachable-requires c =
    let f = data_elements c.args.signed_data.now in
    named_by_name f (signer_elements_at c.args.signer.now) c.in-Some.place c.requires.first (some_known f _ c.in-Some.place c.in-Some.is c.requires.known)
    c.in_default-issuer_and_serial.ensures

pub unreachable-requires-in-None : goal.unreachable-requires-in-None
unreachable-requires-in-None c =
    let f = data_elements c.args.signed_data.now in
    let has = some_known f _ c.in-Some.place c.in-Some.is c.requires.known in
    some_named f (signer_elements_at c.args.signer.now) c.in-Some.place c.requires.first has _ _ c.in-Some-issuer_and_serial.ensures
    (c.in-None.ensures has.1.0 has.1.1)

pub returns : goal.returns
returns c =
    let f = data_elements c.args.signed_data.now in
    let has = some_known f _ c.in-Some.place c.in-Some.is c.requires.known in
    let found = c.in-Some-named_at_place.ensures has.1.0 has.1.1 in
    stands_known f (signer_elements_at c.args.signer.now) c.in-Some.place c.requires.first has _ _ c.in-Some-issuer_and_serial.ensures
    (view_elements c.in-Some-named_at_place.named.certificate) _ found.0 found.1
