use Rattle.cms_types.specs.UnsignedAttribute.{unsigned_attribute}
use Rattle.cms_types.specs.Facts.UnsignedAttributes.{unsigned_attributes}
use Rattle.cms_types.proofs.Equal.{option_list_same}
use Rattle.cms_types.proofs.signer_info.are_same_unsigned.Goals as goal

pub returns : goal.returns
returns c = option_list_same unsigned_attribute unsigned_attributes _ _ _ c.eq.ensures
