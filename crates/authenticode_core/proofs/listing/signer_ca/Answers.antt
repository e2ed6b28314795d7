use Rattle.cms_types.specs.SignedView.{data_elements}
use Rattle.x509_types.specs.CertificateView.{view_elements}
use Rattle.authenticode_core.proofs.CaOrder.{signer_ca_of, walk_is_some}
use Rattle.authenticode_core.proofs.WalkedAll.{some_walk}
use Rattle.authenticode_core.proofs.listing.signer_ca.Goals as goal

pub returns : goal.returns
returns c =
    let s = c.requires.1 in
    let e = view_elements c.args.signer.now in
    let walk = some_walk s.0 e.tbs.subject in
    let looks = c.issuer_walk_of.ensures.looks s.0 s.1 in
    let named = c.in-Some.ensures s.0 walk.0 (record { from = 0; subject = e.tbs.subject; looks = looks; walks = walk.1 }) in
    (named.0, signer_ca_of (data_elements c.args.signed_data.now) c.requires.0 e s walk.0 named.0 walk.1 named.1, named.2)

pub unreachable-requires : goal.unreachable-requires
unreachable-requires c =
    let s = c.requires.1 in
    let e = view_elements c.args.signer.now in
    let walk = some_walk s.0 e.tbs.subject in
    let looks = c.issuer_walk_of.ensures.looks s.0 s.1 in
    walk_is_some (data_elements c.args.signed_data.now) c.requires.0 e s walk.0 walk.1
    (c.in-None.ensures s.0 walk.0 (record { from = 0; subject = e.tbs.subject; looks = looks; walks = walk.1 }))
