-- `Agree` is a proposition: it has at most one proof.
use Rattle.std.proofs.Common.{Option, Some, None}
use Rattle.std.specs.Coded.{Unit-prop, Coded-set, coded_ℕ}
use Rattle.der_core.specs.DerElement.{DerElement, tag_of}
use Rattle.der_core.specs.Owned.{KeptElement}
use Rattle.der_core.specs.BorrowedOption.{kept_option}
use Rattle.key_types.specs.declared.algorithm.AlgorithmIdentifier.{AlgorithmIdentifier}
use Rattle.key_core.specs.PrivateKeyFields.{HaveTag}
use Rattle.key_core.specs.Agreement.{Agree}
use Rattle.key_core.specs.declared.private_key_value.PrivateKeyValue.{PrivateKeyValue}
use Rattle.key_types.specs.Facts.Kinds.{same_bools}

HaveTag-prop : (attributes : Option DerElement) → IsProp (HaveTag attributes)
HaveTag-prop None = Unit-prop
HaveTag-prop (Some attributes) = Coded-set coded_ℕ (tag_of attributes) 0xA0

pub Agree-prop : (algorithm : AlgorithmIdentifier) (key : PrivateKeyValue) (attributes : Option KeptElement) → IsProp (Agree algorithm key attributes)
Agree-prop algorithm key attributes = hlevel (same_bools, HaveTag-prop (kept_option attributes))
