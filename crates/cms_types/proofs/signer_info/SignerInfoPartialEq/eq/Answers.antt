use Rattle.cms_types.specs.SignerInfo.{signer_info}
use Rattle.cms_types.specs.Facts.SignerInfos.{signer_infos}
use Rattle.cms_types.proofs.Equal.{by_octets, by_element}
use Rattle.cms_types.proofs.signer_info.SignerInfoPartialEq.eq.Goals as goal

pub returns-clause-octets : goal.returns-clause-octets
returns-clause-octets c = by_octets signer_info signer_infos c.args.self.now c.args.other.now _ c.is_same.ensures

pub returns-clause-written : goal.returns-clause-written
returns-clause-written c = by_element signer_info signer_infos c.args.self.now c.args.other.now _ c.is_same.ensures
