use Rattle.cms_types.proofs.Equal.{elements_same}
use Rattle.cms_types.proofs.unsigned_attribute.raw.are_same_elements.Goals as goal

pub returns : goal.returns
returns c = elements_same _ _ _ c.eq.ensures
