use Rattle.cms_types.specs.SignedData.{signed_data}
use Rattle.cms_types.specs.Facts.SignedDatas.{all_signed_data}
use Rattle.cms_types.proofs.Equal.{by_octets, by_element}
use Rattle.cms_types.proofs.signed_data.SignedDataPartialEq.eq.Goals as goal

pub returns-clause-octets : goal.returns-clause-octets
returns-clause-octets c = by_octets signed_data all_signed_data c.args.self.now c.args.other.now _ c.is_same.ensures

pub returns-clause-written : goal.returns-clause-written
returns-clause-written c = by_element signed_data all_signed_data c.args.self.now c.args.other.now _ c.is_same.ensures
