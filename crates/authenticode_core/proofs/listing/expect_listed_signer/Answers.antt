use Rattle.std.proofs.lemmas.Result.{err_from_is_err_and}
use Rattle.cms_types.specs.SignedView.{data_elements}
use Rattle.cms_types.specs.SignerView.{signer_elements_at}
use Rattle.x509_types.specs.CertificateView.{view_elements}
use Rattle.authenticode_core.proofs.CaOrder.{ca_unnamed, ca_untrusted, listed_there}
use Rattle.authenticode_core.proofs.listing.expect_listed_signer.Goals as goal

pub returns-in_err-named : goal.returns-in_err-named
returns-in_err-named c =
    let p = err_from_is_err_and c.from_residual-in_err-named.result c.from_residual-in_err-named.ensures.1 in
    rw (p.1, p.2) (ca_unnamed c.args.policy.now (data_elements c.args.signed_data.now) (signer_elements_at c.in_ok-first.first)
    c.in_err-named.field-0.0 c.in_ok-first.ensures c.in_err-named.ensures)

pub expect_ca-requires : goal.expect_ca-requires
expect_ca-requires c = (c.in_ok-named.named.place, c.in_ok-named.ensures)

pub returns-in_err-expect_ca : goal.returns-in_err-expect_ca
returns-in_err-expect_ca c =
    let p = err_from_is_err_and c.from_residual-in_err-expect_ca.result c.from_residual-in_err-expect_ca.ensures.1 in
    rw (p.1, p.2) (ca_untrusted c.args.policy.now (data_elements c.args.signed_data.now) c.in_ok-named.named.place
    (view_elements c.in_ok-named.named.certificate) c.in_err-expect_ca.field-0.0 c.in_ok-named.ensures c.in_err-expect_ca.ensures)

pub returns : goal.returns
returns c =
    listed_there c.args.policy.now (data_elements c.args.signed_data.now) c.in_ok-named.named.place (view_elements c.in_ok-named.named.certificate)
    c.in_ok-named.ensures c.in_ok-expect_ca.ensures
