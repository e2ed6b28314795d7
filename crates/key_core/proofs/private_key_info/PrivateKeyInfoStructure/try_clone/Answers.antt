use Rattle.std.proofs.Common.{refl}
use Rattle.key_core.specs.Facts.PrivateKeyInfos.{same_info}
use Rattle.key_core.proofs.private_key_info.PrivateKeyInfoStructure.try_clone.Goals as goal

pub returns : goal.returns
returns c = same_info _ _ refl c.in_ok-try_clone.ensures c.in_ok-try_clone-2.ensures c.in_ok-copy_option.ensures c.in_ok-copy_option-2.ensures
