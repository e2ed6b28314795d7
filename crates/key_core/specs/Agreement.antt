-- How the fields of a PrivateKeyInfo must agree.
use Rattle.std.specs.Prelude.{Option}
use Rattle.der_core.specs.Owned.{KeptElement}
use Rattle.der_core.specs.BorrowedOption.{kept_option}
use Rattle.key_types.specs.declared.algorithm.AlgorithmIdentifier.{AlgorithmIdentifier}
use Rattle.key_core.specs.KeyAlgorithm.{Names}
use Rattle.key_core.specs.PrivateKeyValue.{private_kind}
use Rattle.key_core.specs.PrivateKeyFields.{HaveTag}
use Rattle.key_core.specs.declared.private_key_value.PrivateKeyValue.{PrivateKeyValue}

-- The algorithm names keys of the kind of the key, and the attributes have their tag.
pub record Agree (algorithm : AlgorithmIdentifier) (key : PrivateKeyValue)
    (attributes : Option KeptElement) : Type 0 where
  -- the algorithm names keys of this kind
  pub named : Names algorithm (private_kind key)
  -- the attributes have their tag
  pub tagged : HaveTag (kept_option attributes)
