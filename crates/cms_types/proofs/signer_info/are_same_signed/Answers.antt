use Rattle.cms_types.specs.SignedAttributesElement.{signed_attributes}
use Rattle.cms_types.specs.Facts.Signed.{all_signed_attributes}
use Rattle.cms_types.proofs.Equal.{option_same}
use Rattle.cms_types.proofs.signer_info.are_same_signed.Goals as goal

pub returns : goal.returns
returns c = option_same signed_attributes all_signed_attributes _ _ _ c.eq.ensures
