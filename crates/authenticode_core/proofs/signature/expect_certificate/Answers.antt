use Rattle.cms_types.specs.SignedView.{data_elements}
use Rattle.cms_types.specs.SignerView.{signer_elements_at}
use Rattle.authenticode_core.proofs.NamedCertificates.{named_by_key, no_certificate}
use Rattle.authenticode_core.proofs.NamedMembers.{named_or_not, least_as, none_as}
use Rattle.authenticode_core.proofs.signature.expect_certificate.Goals as goal

pub returns-in_default : goal.returns-in_default
returns-in_default c = named_by_key _ _ c.requires c.in_default.ensures

pub returns-in-Some-named_certificate : goal.returns-in-Some-named_certificate
returns-in-Some-named_certificate c =
    let found = c.in-Some-named_certificate.ensures in
    let same = named_or_not (data_elements c.args.signed_data.now) (signer_elements_at c.args.signer.now) _ _ c.requires c.in-Some.ensures in
    record { has = (found.0, found.1, least_as found.0 _ _ _ _ same found.2.least); asks = found.2.asks }

pub returns-in-None : goal.returns-in-None
returns-in-None c =
    let found = c.in-None.ensures in
    let same = named_or_not (data_elements c.args.signed_data.now) (signer_elements_at c.args.signer.now) _ _ c.requires c.in-Some.ensures in
    no_certificate _ _ found.0 _ _ _ c.requires found.1 (none_as found.0 _ _ same found.2) c.in-Some.ensures c.no_certificate.ensures
