use Rattle.std.proofs.Common.{◌≡◌, Result, Ok, Err, ap, ◌∙◌}
use Rattle.der_core.specs.declared.error.DerError.{DerError}
use Rattle.key_types.specs.declared.ec_private_key.ECPrivateKey.{ECPrivateKey}
use Rattle.key_core.specs.KeyRefusals.{unread}
use Rattle.key_core.specs.declared.element.Element.TheVariants as elements
use Rattle.key_core.proofs.private_key.sec1.read.Goals as goal

source_is : (x y : DerError) → ◌≡◌ {A = Result ECPrivateKey DerError} (Err x) (Err y) → x ≡ y
source_is x y e = cc

read_is_not_refused : (key : ECPrivateKey) (e : DerError) → ◌≡◌ {A = Result ECPrivateKey DerError} (Ok key) (Err e) → ⊥
read_is_not_refused key e same = cc

pub returns-in-Ok-clause-faulty : goal.returns-in-Ok-clause-faulty
returns-in-Ok-clause-faulty c = λ at fault is. absurd (read_is_not_refused _ _ (c.in-Ok.ensures.faulty at fault is))

pub returns-in-Err-clause-faulty : goal.returns-in-Err-clause-faulty
returns-in-Err-clause-faulty c =
    λ at fault is. ap Err (c.unread.ensures ∙ ap (unread elements.EcPrivateKey) (source_is _ _ (c.in-Err.ensures.faulty at fault is)))
