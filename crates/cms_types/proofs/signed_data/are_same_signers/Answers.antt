use Rattle.cms_types.specs.SignerInfo.{signer_info}
use Rattle.cms_types.specs.Facts.SignerInfos.{signer_infos}
use Rattle.cms_types.proofs.Equal.{list_same}
use Rattle.cms_types.proofs.signed_data.are_same_signers.Goals as goal

pub returns : goal.returns
returns c = list_same signer_info signer_infos _ _ _ c.eq.ensures
