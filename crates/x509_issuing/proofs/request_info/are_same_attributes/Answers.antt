use Rattle.x509_issuing.proofs.Requested.{same_attribute_lists}
use Rattle.x509_issuing.proofs.request_info.are_same_attributes.Goals as goal

pub returns : goal.returns
returns c = same_attribute_lists _ _ _ c.eq.ensures
