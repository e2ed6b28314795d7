use Rattle.cms_types.proofs.Equal.{option_elements_same}
use Rattle.cms_types.proofs.signed_data.are_same_lists.Goals as goal

pub returns : goal.returns
returns c = option_elements_same _ _ _ c.eq.ensures
