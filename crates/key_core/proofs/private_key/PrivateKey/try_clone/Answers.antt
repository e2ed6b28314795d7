use Rattle.key_core.specs.Facts.PrivateKeys.{same_key}
use Rattle.key_core.proofs.private_key.PrivateKey.try_clone.Goals as goal

pub returns : goal.returns
returns c = same_key _ _ c.in_ok-try_clone.ensures c.in_ok-copy_option.ensures
