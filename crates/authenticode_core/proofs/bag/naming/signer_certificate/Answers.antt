use Rattle.cms_types.specs.SignedView.{data_elements}
use Rattle.cms_types.specs.SignerView.{signer_elements_at}
use Rattle.authenticode_core.proofs.NamedMembers.{named_or_not, least_as, none_as, none_by_key}
use Rattle.authenticode_core.proofs.bag.naming.signer_certificate.Goals as goal

pub returns-in_default : goal.returns-in_default
returns-in_default c =
    let bag = c.decide_bag.ensures in
    (bag.0, bag.1, none_by_key (data_elements c.args.signed_data.now) (signer_elements_at c.args.signer.now) bag.0 c.requires c.in_default.ensures)

pub returns-in-Some-named_certificate : goal.returns-in-Some-named_certificate
returns-in-Some-named_certificate c =
    let found = c.in-Some-named_certificate.ensures in
    let same = named_or_not (data_elements c.args.signed_data.now) (signer_elements_at c.args.signer.now) _ _ c.requires c.in-Some.ensures in
    (found.0, found.1, least_as found.0 _ _ _ _ same found.2.least)

pub returns-in-None : goal.returns-in-None
returns-in-None c =
    let found = c.in-None.ensures in
    let same = named_or_not (data_elements c.args.signed_data.now) (signer_elements_at c.args.signer.now) _ _ c.requires c.in-Some.ensures in
    (found.0, found.1, none_as found.0 _ _ same found.2)
