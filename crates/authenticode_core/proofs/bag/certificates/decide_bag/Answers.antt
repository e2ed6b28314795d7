use Rattle.cms_types.specs.SignedView.{data_elements}
use Rattle.authenticode_core.proofs.NamedCertificates.{bag_of}
use Rattle.authenticode_core.proofs.bag.certificates.decide_bag.Goals as goal

pub returns : goal.returns
returns c =
    let counted = c.count-certificates.ensures in
    (counted.0, bag_of (data_elements c.args.signed_data.now) _ counted.0 c.certificate_bag.ensures.members counted.1)
